-- The marks of a rule as fields: which numbers they are, and which field is taken after which marks.
use Rattle.std.proofs.Common.{◌≡◌, ℕ, suc, ◌+◌, ◌<◌, ◌≤◌, List, [], ◌∷◌, length, get_or, ℤ, pos, negsuc, nat_abs, Some, decimal, refl, arith, true, false, ◌++◌, None, Ok, Option}
use Rattle.std.proofs.lemmas.Bool.Decides.{nat_tests}
use Rattle.std.proofs.lemmas.Grind.{common_steps}
use Rattle.parts.specs.declared.mark.Mark.{Mark}
use Rattle.parts.specs.Distinct.{names}
use Rattle.parts.specs.Marks.{mark_from, number_from}
use Rattle.text.specs.Numbers.{signed}
use Rattle.text.proofs.NumberLaws.{number_decimal, decimal_number, first_digit, signed_plain}
use Rattle.book.specs.Meaning.{Rule, sound_rule}
use Rattle.book.specs.Tables.{marks_limit}
use Rattle.grammar.specs.declared.RuleStart.{RuleStart}
use Rattle.grammar.specs.declared.Room.{Room}
use Rattle.grammar.specs.Reading.{number_or_fault}
use Rattle.grammar.specs.Writing.{mark_field}

-- no mark begins with c
pub first_mark : (m : Mark) → m.part < 100000 → get_or (mark_field m) 0 0 ≡ 99 → ⊥
first_mark m h e = grind (arith, first_digit m.part)

-- each signed number is read from the writing of its mark; 0 from "0"
pub signed_mark : (z : ℤ) → nat_abs z < 100000 → signed (mark_field (mark_from z)) ≡ Some z
signed_mark (pos p) h = grind (arith, signed_plain (decimal p), first_digit p, number_decimal p)
signed_mark (negsuc p) h = grind (arith, number_decimal (suc p))

-- and from nothing else
abbrev pub Writes : List ℕ → ℤ → Type 0
Writes w z = (w ≡ mark_field (mark_from z)) × (nat_abs z < 100000)

pub mark_signed : (w : List ℕ) (z : ℤ) → signed w ≡ Some z → Writes w z
mark_signed [] z e = cc
mark_signed (b ∷ bs) z e = grind (arith, nat_tests, decimal_number bs (nat_abs z), decimal_number (b ∷ bs) (nat_abs z))

-- a mark's number stands for that mark, and has its part
pub mark_number : (m : Mark) → 1 ≤ m.part → (mark_from (number_from m) ≡ m) × (nat_abs (number_from m) ≡ m.part)
mark_number m h = grind arith

-- a number's mark has its part
pub part_from : (z : ℤ) → (mark_from z).part ≡ nat_abs z
part_from z = grind arith

-- 0 is no part of a sound rule
pub names_zero : (n : ℕ) (r : Rule) → sound_rule n r ≡ true → names r 0 ≡ false
names_zero n [] h = refl
names_zero n (m ∷ r) h = grind (arith, nat_tests, names_zero n r)

pub sound_parts : (n : ℕ) (m : Mark) (r : Rule) → sound_rule n (m ∷ r) ≡ true → (1 ≤ m.part) × (m.part ≤ n) × (names r m.part ≡ false) × (sound_rule n r ≡ true)
sound_parts n m r h = grind (arith, nat_tests)

-- what a sound rule says of one of its marks
pub sound_mark : (n : ℕ) (seen : Rule) (m : Mark) (r : Rule) → sound_rule n (seen ++ m ∷ r) ≡ true → (1 ≤ m.part) × (m.part ≤ n) × (names seen m.part ≡ false)
sound_mark n [] m r h = grind (arith, nat_tests)
sound_mark n (s ∷ seen) m r h = grind (arith, common_steps, sound_mark n seen m r)

-- a number is taken as a field after the marks `seen`
pub record Taken (room : Room) (start : RuleStart) (seen : Rule) (z : ℤ) : Type 0 where
  pub within : nat_abs z ≤ room.n
  pub fresh : names seen (nat_abs z) ≡ false
  pub line : length seen ≡ 0 → start.rule ≤ room.ends
  pub fits : (nat_abs z ≡ 0 → ⊥) → start.used + length seen < marks_limit room.marks

module _ (room : Room) (start : RuleStart) (seen : Rule) where
  pub field_taken : (at : ℕ) (z : ℤ) → Taken room start seen z → number_or_fault room start seen at (Some z) ≡ Ok z
  field_taken at z t = grind (arith, nat_tests)

  pub taken_field : (at : ℕ) (o : Option ℤ) (z : ℤ) → number_or_fault room start seen at o ≡ Ok z → (o ≡ Some z) × Taken room start seen z
  taken_field at None z e = cc
  taken_field at (Some y) z e = (grind arith, record { within = grind (arith, nat_tests); fresh = grind arith; line = grind (arith, nat_tests); fits = grind (arith, nat_tests) })
