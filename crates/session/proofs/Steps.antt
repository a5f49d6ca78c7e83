-- What a step does; open marks; and a run, a step at a time.
use Rattle.std.proofs.Common.{◌≡◌, ℕ, suc, ◌+◌, ◌-◌, ◌<◌, ◌≤◌, true, false, List, [], ◌∷◌, ◌++◌, take, set, replicate, Some, inl, inr, refl, arith}
use Rattle.std.proofs.Math.Seq.{take-set-lt}
use Rattle.std.proofs.lemmas.Grind.{common_steps}
use Rattle.std.proofs.lemmas.Bool.Decides.{nat_tests}
use Rattle.std.proofs.lemmas.Bool.{cases_lt}
use Rattle.std.proofs.lemmas.List.{set_past, take-replicate, take-set-le}
use Rattle.parts.specs.Codes.{code_of}
use Rattle.parts.specs.declared.limits.TheConstants.{MOST_PARTS}
use Rattle.parts.specs.declared.mark.Mark.{Mark}
use Rattle.parts.specs.Distinct.{names, is_part, is_distinct, released}
use Rattle.parts.specs.Rows.{Row}
use Rattle.parts.proofs.DistinctLaws.{is_distinct_push, released_distinct}
use Rattle.book.specs.Meaning.{Rule, RuleBook, Sound}
use Rattle.picker.specs.Meaning.{Picks, picked, Sound as SoundPicks}
use Rattle.search.specs.Trail.{Trail, row, enter}
use Rattle.search.specs.Machine.{Bench, Machine, Outcome, bottom, stop, swept, turned, named_holds, stands, step, run}
use Rattle.search.specs.declared.forgetting.Forgetting.{Forgetting}
use Rattle.shelf.specs.Meaning.{Shelved, row_written}
use Rattle.search.proofs.Settled.{answer_open}
use Rattle.trail.specs.Settling.{can_settle}

-- the front of an empty row
pub empty_front : (b : RuleBook) → Sound b → take {A = ℕ} b.n (replicate MOST_PARTS 0) ≡ replicate b.n 0
empty_front b s = take-replicate b.n MOST_PARTS 0 s.few

-- how a turn ends does not hang on the trail before it
pub turned_same : (b : Bench) (m : Machine) (o : Outcome) → turned b m o ≡ turned b (record m { trail = [] }) o
unfolding turned
turned_same b m (bottom c) = refl
turned_same b m (stop x c u) = refl

-- writing and forgetting keep the parts of a shelf
pub swept_parts : (f : Forgetting) (now : Row) (t : Trail) (s : Shelved) (i : ℕ) (c : Row) → (swept f now t (row_written s i c)).n ≡ s.n
unfolding swept
swept_parts f now t s i c = grind arith

-- a write in the front of a row, or past it
set_front : (n : ℕ) (c d : Row) (i v : ℕ) → take n c ≡ d → take n (set c i v) ≡ set d i v
set_front n c d i v e =
    elim (cases_lt i n) [
      | inl l ↦ rw (take-set-lt n c i v l, e) refl
      | inr g ↦ grind (arith, common_steps, take-set-le n c i v g, set_past d i v)
    ]

-- the row of named holds over fewer parts is the front of that over more
enter_front : (n : ℕ) (c d : Row) (hs : Rule) → take n c ≡ d → take n (enter c hs) ≡ enter d hs
unfolding enter
enter_front n c d [] e = e
enter_front n c d (h ∷ hs) e = enter_front n (set c (h.part - 1) (code_of h.side)) (set d (h.part - 1) (code_of h.side)) hs (set_front n c d (h.part - 1) (code_of h.side) e)

pub named_front : (n k : ℕ) (c : Row) (hs : List Mark) → n ≤ k → take n (named_holds k c hs) ≡ named_holds n c hs
unfolding named_holds
named_front n k c hs l = enter_front n (replicate k 0) (replicate n 0) _ (take-replicate n k 0 l)

-- a picker's part is open
pub picked_open : (p : Picks) (n : ℕ) (t : Trail) (x : Mark) → SoundPicks p → p.n ≡ n → Some x ≡ picked p (row n t) → can_settle (record { n = n; entries = t }) x ≡ true
picked_open p n t x s e h = grind (arith, nat_tests, s.frees (row n t), answer_open n t x.part)

-- one step of a run
pub run_more : (b : Bench) (k i : ℕ) (m : Machine) → i < k → stands m.verdict ≡ false → run b (k - i) m ≡ run b (k - (i + 1)) (step b m)
unfolding run
run_more b k i m l h = let e : k - i ≡ suc (k - (i + 1)) = omega arith in rw (e, h, run)

-- the holds of a session after a hold, and after a release
pub held_more : (n : ℕ) (hs : List Mark) (m : Mark) → is_distinct n hs ≡ true → is_part n m.part ≡ true → names hs m.part ≡ false → is_distinct n (hs ++ m ∷ []) ≡ true
held_more n hs m s p f = is_distinct_push n hs m s (grind (arith, nat_tests)) (grind (arith, nat_tests)) f

pub held_less : (n p : ℕ) (hs : List Mark) → is_distinct n hs ≡ true → is_distinct n (released p hs) ≡ true
held_less n p hs s = (released_distinct n p hs s).0
