-- The lines after the head read as rules exactly if the format allows them for these rules and the tables take them.
use Rattle.std.proofs.Common.{◌≡◌, ℕ, ◌+◌, ◌<◌, ◌≤◌, true, cond, eqb, List, [], ◌∷◌, ◌++◌, map, length, ℤ, pos, nat_abs, Some, Ok, Err, codes, Result, refl, inl, inr, arith, leb, ◌⊎◌}
use Rattle.std.specs.List.{AllByRecursion}
use Rattle.std.proofs.lemmas.List.{append_assoc, length-append}
use Rattle.std.proofs.lemmas.Bool.{cases_eq, lt-leb}
use Rattle.std.proofs.lemmas.Bool.Decides.{nat_tests}
use Rattle.std.proofs.lemmas.Grind.{common_steps}
use Rattle.parts.specs.declared.fault.Fault.{Fault}
use Rattle.parts.specs.declared.refusal.Refusal.TheVariants.{RuleCount}
use Rattle.parts.specs.Marks.{mark_from, number_from}
use Rattle.parts.proofs.DistinctLaws.{is_distinct_push}
use Rattle.text.specs.Numbers.{signed}
use Rattle.text.specs.Pieces.{Piece}
use Rattle.text.specs.Layout.{Inline}
use Rattle.text.proofs.LineLaws.{bytes_of}
use Rattle.text.proofs.NumberLaws.{decimal_zero}
use Rattle.book.specs.Meaning.{Rule, sound_rule, sound_rules, count_marks}
use Rattle.book.specs.Tables.{marks_limit}
use Rattle.grammar.specs.declared.RuleStart.{RuleStart}
use Rattle.grammar.specs.declared.Room.{Room}
use Rattle.grammar.specs.Reading.{counted, counted_fields, number_or_fault, ended_rule, rule_of, fault_at, with_rule, rule_start, rules_of}
use Rattle.grammar.specs.Writing.{mark_field}
use Rattle.grammar.specs.Format.{RuleLine, Rest}
use Rattle.grammar.specs.Format.Rest.{ends, skips, reads}
use Rattle.grammar.proofs.Counted.{counted_skipped, counted_are, counted_of}
use Rattle.grammar.proofs.Marks.{signed_mark, mark_signed, first_mark, mark_number, part_from, names_zero, sound_mark, Taken, field_taken, taken_field, sound_parts}

-- A rule line reads as a rule exactly if its fields are the rule's marks and then 0, the rule is sound, and the tables take it.
-- how a rule goes on after a field that is worth z
abbrev pub next : Room → RuleStart → Rule → List Piece → ℤ → Result Rule Fault
next room start seen fs z = cond (eqb (nat_abs z) 0) (ended_rule start seen fs) (rule_of room start (seen ++ mark_from z ∷ []) fs)

-- the fields of a rule
abbrev pub rule_words : Rule → List (List ℕ)
rule_words r = map mark_field r ++ codes "0" ∷ []

abbrev pub Written : Rule → List Piece → Type 0
Written r fs = bytes_of fs ≡ rule_words r

-- a rule that its line may give: it is sound, and the tables take it
pub record Kept (room : Room) (start : RuleStart) (r : Rule) : Type 0 where
  pub sound : sound_rule room.n r ≡ true
  pub fits : start.used + length r ≤ marks_limit room.marks
  pub line : start.rule ≤ room.ends

-- what a rule that is read after the marks `seen` of it was read from: its first field, and all fields
abbrev pub FieldStep : Room → RuleStart → Rule → Rule → Piece → List Piece → Type 0
FieldStep room start seen r f fs = (z : ℤ) × (signed f.bytes ≡ Some z) × Taken room start seen z × (next room start seen fs z ≡ Ok r)

abbrev pub Ended : Room → RuleStart → Rule → Rule → List Piece → Type 0
Ended room start seen r fs = (rest : Rule) × (r ≡ seen ++ rest) × Written rest fs × Kept room start r

module _ (room : Room) (start : RuleStart) where
  -- one field is taken
  pub rule_step : (seen : Rule) (f : Piece) (fs : List Piece) (z : ℤ) → signed f.bytes ≡ Some z → Taken room start seen z → rule_of room start seen (f ∷ fs) ≡ next room start seen fs z
  rule_step seen f fs z e t = grind (arith, field_taken room start seen (f.at) z t)

  -- a field that a rule was read from was taken
  pub step_rule : (seen r : Rule) (f : Piece) (fs : List Piece) → rule_of room start seen (f ∷ fs) ≡ Ok r → FieldStep room start seen r f fs
  step_rule seen r f fs e = by (number_or_fault room start seen (f.at) (signed f.bytes)) refl
    where
      by : (x : Result ℤ Fault) → number_or_fault room start seen (f.at) (signed f.bytes) ≡ x → FieldStep room start seen r f fs
      by (Err x) q = grind arith
      by (Ok z) q = let t = taken_field room start seen _ _ z q in (z, t.0, t.1, grind arith)

  -- the fields of such a rule give it
  pub rule_from : (r seen : Rule) (fs : List Piece) → room.n < 100000 → Kept room start (seen ++ r) → Written r fs → rule_of room start seen fs ≡ Ok (seen ++ r)
  rule_from [] seen (f ∷ []) few k w =
      let taken : Taken room start seen (pos 0) = grind (arith, common_steps, names_zero room.n seen) in
      grind (arith, common_steps, decimal_zero, signed_mark (pos 0), rule_step seen f [] (pos 0), taken)
  rule_from (m ∷ r) seen (f ∷ fs) few k w =
      let s = sound_mark room.n seen m r k.sound in
      let z = number_from m in
      let (is, part) = mark_number m s.0 in
      let all : (seen ++ m ∷ []) ++ r ≡ seen ++ m ∷ r = append_assoc seen (m ∷ []) r in
      let taken : Taken room start seen z = grind (arith, length-append seen (m ∷ r)) in
      let step = rule_step seen f fs z (grind (arith, signed_mark z)) taken in
      grind (arith, nat_tests, rule_from r (seen ++ m ∷ []) fs few (rw all k))
  rule_from r seen fs few k w = grind arith

  -- and a rule is read from nothing else
  pub rule_to : (fs : List Piece) (seen r : Rule) → sound_rule room.n seen ≡ true → start.used + length seen ≤ marks_limit room.marks → (0 < length seen → start.rule ≤ room.ends)
      → rule_of room start seen fs ≡ Ok r → Ended room start seen r fs
  rule_to [] seen r sound fits line e = cc
  rule_to (f ∷ fs) seen r sound fits line e =
      let (z, worth, t, more) = step_rule seen r f fs e in
      let field = (mark_signed f.bytes z worth).0 in
      elim (cases_eq (nat_abs z) 0) [
        | inl q ↦
            let ended : ended_rule start seen fs ≡ Ok r = grind (arith, nat_tests) in
            ([], grind (arith, common_steps), grind (arith, decimal_zero), grind arith)
        | inr q ↦
            let k : Kept room start (seen ++ mark_from z ∷ []) = grind (arith, common_steps, part_from z, t.fits q, is_distinct_push room.n seen (mark_from z)) in
            let (rest, is, written, kept) = rule_to fs (seen ++ mark_from z ∷ []) r k.sound k.fits (λ _. k.line) (grind (arith, nat_tests)) in
            (mark_from z ∷ rest, grind (arith, common_steps), grind arith, kept)
      ]

-- the fields that count on a rule line
pub line_written : (n p : ℕ) (r : Rule) (line : List ℕ) → n < 100000 → sound_rule n r ≡ true → RuleLine r line → Written r (counted_fields p line)
line_written n p [] line few h f = counted_are p (codes "0") [] line (λ e. omega arith) f
line_written n p (m ∷ r) line few h f =
    let k = sound_parts n m r h in
    counted_are p (mark_field m) (rule_words r) line (first_mark m (omega arith)) f

pub written_line : (p : ℕ) (r : Rule) (line : List ℕ) → AllByRecursion Inline line → Written r (counted_fields p line) → RuleLine r line
written_line p [] line h w = rw w at (counted_of p line h)
written_line p (m ∷ r) line h w = rw w at (counted_of p line h)

-- rules that may follow `done` rules with `used` marks, so that there are m rules
pub record Given (room : Room) (m done used : ℕ) (rs : List Rule) : Type 0 where
  pub sound : sound_rules room.n rs ≡ true
  pub fits : used + count_marks rs ≤ marks_limit room.marks
  pub all : done + length rs ≡ m
  pub lines : m ≤ room.ends

-- how the lines after a rule line go on, by what that line reads as
abbrev pub read_rule : Room → ℕ → ℕ → ℕ → ℕ → List Piece → Result Rule Fault → Result (List Rule) Fault
read_rule room end m done used ls (Err e) = Err e
read_rule room end m done used ls (Ok r) = with_rule r (rules_of room end m (done + 1) (used + length r) ls)

-- the same by the line's fields that count
abbrev pub read_line : Room → ℕ → ℕ → ℕ → ℕ → Piece → List Piece → List Piece → Result (List Rule) Fault
read_line room end m done used l ls [] = rules_of room end m done used ls
read_line room end m done used l ls (f ∷ fs) =
    cond (leb m done) (Err (fault_at RuleCount f.at (done + 1))) (read_rule room end m done used ls (rule_of room (rule_start done used l) [] (f ∷ fs)))

-- a line with these fields that count was passed over, or gave the first rule
abbrev pub LineStep : Room → ℕ → ℕ → ℕ → ℕ → Piece → List Piece → List Rule → List Piece → Type 0
LineStep room end m done used l ls rs fs =
    ((fs ≡ []) × (rules_of room end m done used ls ≡ Ok rs))
    ⊎ ((r : Rule) × (more : List Rule) × (rs ≡ r ∷ more) × (done < m) × (rule_of room (rule_start done used l) [] fs ≡ Ok r) × (rules_of room end m (done + 1) (used + length r) ls ≡ Ok more))

module _ (room : Room) (end m : ℕ) where
  -- a line that is passed over
  pub rules_skip : (done used : ℕ) (l : Piece) (ls : List Piece) → counted l ≡ [] → rules_of room end m done used (l ∷ ls) ≡ rules_of room end m done used ls
  rules_skip done used l ls e = grind arith

  -- a line that gives a rule
  pub rules_rule : (done used : ℕ) (l : Piece) (ls : List Piece) (r : Rule) → done < m → rule_of room (rule_start done used l) [] (counted l) ≡ Ok r
      → rules_of room end m done used (l ∷ ls) ≡ with_rule r (rules_of room end m (done + 1) (used + length r) ls)
  rules_rule done used l ls r h e = grind (arith, lt-leb m done h)

  -- rules that the format allows are read
  pub rules_from : (ps : List Piece) (rs : List Rule) (done used : ℕ) → room.n < 100000 → Given room m done used rs → Rest rs (bytes_of ps) → rules_of room end m done used ps ≡ Ok rs
  rules_from [] rs done used few g ends = grind (arith, nat_tests)
  rules_from (l ∷ ls) rs done used few g (skips s h) = grind (arith, rules_skip done used l ls (counted_skipped l.at l.bytes s), rules_from ls rs done used few g h)
  rules_from (l ∷ ls) (r ∷ rs) done used few g (reads f h) =
      let kept : Kept room (rule_start done used l) r = grind arith in
      let more : Given room m (done + 1) (used + length r) rs = grind arith in
      let line = rule_from room (rule_start done used l) r [] (counted l) few kept (line_written room.n l.at r l.bytes few kept.sound f) in
      grind (arith, rules_rule done used l ls r, rules_from ls rs (done + 1) (used + length r) few more h)

  -- a line of lines that were read was passed over, or gave a rule
  pub step_rules : (done used : ℕ) (l : Piece) (ls : List Piece) (rs : List Rule) → rules_of room end m done used (l ∷ ls) ≡ Ok rs → LineStep room end m done used l ls rs (counted l)
  step_rules done used l ls = by (counted l)
    where
      by : (fs : List Piece) (rs : List Rule) → read_line room end m done used l ls fs ≡ Ok rs → LineStep room end m done used l ls rs fs
      by [] rs e = inl (refl, e)
      by (f ∷ fs) [] e = grind arith
      by (f ∷ fs) (r ∷ more) e = inr (r, more, refl, grind (arith, nat_tests), grind arith, grind arith)

  -- and no others
  pub rules_to : (ps : List Piece) (rs : List Rule) (done used : ℕ) → AllByRecursion (AllByRecursion Inline) (bytes_of ps) → used ≤ marks_limit room.marks → done ≤ m → done ≤ room.ends
      → rules_of room end m done used ps ≡ Ok rs → Rest rs (bytes_of ps) × Given room m done used rs
  rules_to [] [] done used inline fits le few e = (ends, grind (arith, nat_tests))
  rules_to [] (r ∷ rs) done used inline fits le few e = grind arith
  rules_to (l ∷ ls) rs done used inline fits le few e =
      elim (step_rules done used l ls rs e) [
        | inl k ↦
            let (h, g) = rules_to ls rs done used inline.1 fits le few k.1 in
            (skips (rw k.0 at (counted_of l.at l.bytes inline.0)) h, g)
        | inr k ↦
            let (r, more, is, lt, rule, rest) = k in
            let (r', same, written, kept) = rule_to room (rule_start done used l) (counted l) [] r refl (omega arith) (λ e. omega arith) rule in
            let (h, g) = rules_to ls more (done + 1) (used + length r) inline.1 kept.fits (omega arith) kept.line rest in
            rw is (reads (written_line l.at r l.bytes inline.0 (rw same written)) h, grind arith)
      ]
