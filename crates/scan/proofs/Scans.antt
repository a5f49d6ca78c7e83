-- The scan of rules and of marks, step by step.
use Rattle.std.proofs.Common.{◌≡◌, ℕ, ◌+◌, ◌-◌, ◌≤◌, ◌<◌, true, List, [], ◌∷◌, length, drop, Some, None, Option, arith}
use Rattle.std.proofs.lemmas.Grind.{common_steps}
use Rattle.std.proofs.lemmas.Bool.Decides.{nat_tests}
use Rattle.std.proofs.lemmas.Option.{gets}
use Rattle.std.specs.Option.{option_map_or, option_or}
use Rattle.parts.specs.declared.mark.Mark.{Mark}
use Rattle.parts.specs.Distinct.{is_distinct}
use Rattle.parts.specs.Lists.{at_place}
use Rattle.parts.specs.Rows.{Row}
use Rattle.parts.proofs.Among.{Among, at_among}
use Rattle.parts.proofs.DistinctLaws.{distinct_member}
use Rattle.book.specs.Meaning.{Rule}
use Rattle.rules.specs.Listing.{Listed, SoundList, rule_in, mark_in}
use Rattle.search.specs.Machine.{state_of, marks_at}
use Rattle.search.specs.Trail.{truth, is_open, State, broken, weigh, state}
use Rattle.scan.specs.Scanning.{before, first_in, broken_in}
use Rattle.scan.specs.declared.Scanned.TheVariants.{Quiet}

-- what stands from a place on
abbrev pub onward : {X : Type 0} → ℕ → List X → List X
onward k xs = drop (k - 1) xs

onward_at : {X Y : Type 0} (F : List X → Y) (xs : List X) (k : ℕ) (x : X) → at_place xs k ≡ Some x → F (onward k xs) ≡ F (x ∷ onward (k + 1) xs)
onward_at F xs k x e = grind (arith, common_steps, gets)

onward_end : {X Y : Type 0} (F : List X → Y) (xs : List X) (k : ℕ) → length xs < k → F (onward k xs) ≡ F []
onward_end F xs k h = grind (arith, common_steps)

-- an open mark seen, before marks in that state
abbrev pub free : Option Mark → State → State
free None s = s
free (Some m) s = weigh is_open m s

-- a rule that is there is sound
rule_sound : (l : Listed) → SoundList l → (r : ℕ) → is_distinct l.n (marks_at (rule_in l.rules r)) ≡ true
rule_sound l w r = grind (arith, common_steps, gets, w.sound (r - 1))

-- what stands at a place is a member
place_among : {A : Type 0} (xs : List A) (k : ℕ) (x : A) → at_place xs k ≡ Some x → Among x xs
place_among xs k x h = grind (arith, common_steps, gets, at_among xs (k - 1) x)

-- the part of a mark that was read is within the row
pub part_within : (l : Listed) → SoundList l → (r k : ℕ) (m : Mark) → Some m ≡ mark_in l.rules r k → (1 ≤ m.part) × (m.part ≤ l.n)
part_within l w r k m e = distinct_member l.n _ m (rule_sound l w r) (place_among (marks_at (rule_in l.rules r)) k m (grind arith))

-- one turn of the loop over rules
pub rule_step : (row : Row) (rs : List (Option Rule)) (r : ℕ) → 1 ≤ r → r ≤ length rs
    → first_in row r (onward r rs) ≡ before r (state_of row (rule_in rs r)) (first_in row (r + 1) (onward (r + 1) rs))
rule_step row rs r lo hi = grind (arith, gets, onward_at (first_in row r) rs r (rule_in rs r))

-- one turn of the loop over marks
pub mark_step : (row : Row) (ms : Rule) (k : ℕ) → 1 ≤ k
    → state row (onward k ms) ≡ option_map_or (λ m. weigh (truth row m) m (state row (onward (k + 1) ms))) (at_place ms k) broken
mark_step row ms k lo = grind (arith, gets, onward_at (state row) ms k, onward_end (state row) ms k)

pub marks_end : (row : Row) (ms : Rule) (k : ℕ) → length ms < k → state row (onward k ms) ≡ broken
marks_end row ms k h = onward_end (state row) ms k h

-- the same where only broken rules are looked for
pub broken_step : (row : Row) (rs : List (Option Rule)) (r : ℕ) → 1 ≤ r → r ≤ length rs
    → broken_in (first_in row r (onward r rs)) ≡ option_or (broken_in (before r (state_of row (rule_in rs r)) Quiet)) (broken_in (first_in row (r + 1) (onward (r + 1) rs)))
broken_step row rs r lo hi = grind (arith, rule_step row rs r lo hi)

-- the steps of both loops, with what their tests say
pub ruleset steps = (nat_tests, rule_step, mark_step, marks_end)
