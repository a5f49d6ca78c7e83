-- One mark more of a rule line.
use Rattle.parts.specs.declared.limits.TheConstants.{MOST_PARTS}
use Rattle.std.proofs.Common.{◌≡◌, List, [], ◌∷◌, ℤ, nat_abs, Some, None, arith, w32, SFits, of_z, ◌+◌, ◌≤◌, eqb, ◌++◌, map, length, Ok, refl, true, set, pos, negsuc, w16, to_z}
use Rattle.std.proofs.lemmas.Bool.Decides.{nat_tests}
use Rattle.text.specs.Numbers.{signed}
use Rattle.text.specs.Pieces.{Piece}
use Rattle.reading.specs.Fills.{stored}
use Rattle.std.proofs.lemmas.List.{append-nil, append_assoc, length_push}
use Rattle.std.specs.List.{AllByRecursion}
use Rattle.book.specs.Meaning.{Rule}
use Rattle.parts.specs.Marks.{mark_from, number_from}
use Rattle.grammar.specs.declared.RuleStart.{RuleStart}
use Rattle.grammar.specs.declared.Room.{Room}
use Rattle.grammar.specs.Reading.{rule_of}
use Rattle.book.specs.Tables.{marks_limit}
use Rattle.grammar.proofs.Marks.{Taken, part_from}
use Rattle.grammar.proofs.RuleLines.{step_rule, rule_step}
use Rattle.std.proofs.lemmas.Grind.{common_steps}
use Rattle.std.proofs.lemmas.List.Folds.{list_any-append}
use Rattle.std.proofs.lemmas.Int.{to_z-of_z}
use Rattle.reading.specs.Named.{HasNamed}
use Rattle.reading.specs.declared.checking.OpenRule.{OpenRule}

-- What a rule line, and a text, that were let through say of the tables.
-- One field more of a rule line that is stored.
module _ {fs : List Piece} {f : Piece} {rest : List Piece} (e : fs ≡ f ∷ rest) where
  pub stored_stop : None ≡ signed f.bytes → stored fs ≡ []
  stored_stop s = grind arith

  module _ (z : ℤ) (s : Some z ≡ signed f.bytes) where
    pub stored_zero : nat_abs z ≡ 0 → stored fs ≡ []
    stored_zero h = grind (arith, nat_tests)

    pub stored_mark : (nat_abs z ≡ 0 → ⊥) → stored fs ≡ z ∷ stored rest
    stored_mark h = grind (arith, nat_tests)

pub bits_zero : (z : ℤ) → SFits w32 z → of_z w32 z ≡ 0 → nat_abs z ≡ 0
bits_zero z s h = grind (arith, s.sfits)

-- a rule that was let through after the marks `seen`: it goes on with the line's numbers, and the tables take it
pub record Stores (room : Room) (start : RuleStart) (seen : Rule) (fs : List Piece) (r : Rule) : Type 0 where
  pub goes_on : r ≡ seen ++ map mark_from (stored fs)
  pub small : AllByRecursion (λ z. nat_abs z ≤ room.n) (stored fs)
  pub fits : start.used + length seen ≤ marks_limit room.marks → start.used + length r ≤ marks_limit room.marks

pub rule_stores : (room : Room) (start : RuleStart) (seen : Rule) (fs : List Piece) (r : Rule) → rule_of room start seen fs ≡ Ok r → Stores room start seen fs r
rule_stores room start seen [] r e = grind arith
rule_stores room start seen (f ∷ fs) r e =
    let (z, worth, t, more) = step_rule room start seen r f fs e in
    grind (arith, nat_tests, t, append-nil seen, append_assoc seen (mark_from z ∷ []), length_push seen (mark_from z), rule_stores room start (seen ++ mark_from z ∷ []) fs r)

-- the numbers of a rule's marks are those on its line
pub numbers_back : (zs : List ℤ) → map number_from (map mark_from zs) ≡ zs
numbers_back [] = refl
numbers_back (z ∷ zs) = grind (arith, numbers_back zs)

-- a mark is taken, and the rule goes on
pub rule_mark : (room : Room) (start : RuleStart) (seen : Rule) (f : Piece) (fs : List Piece) (z : ℤ) → signed f.bytes ≡ Some z → Taken room start seen z → (nat_abs z ≡ 0 → ⊥) → rule_of room start seen (f ∷ fs) ≡ rule_of room start (seen ++ mark_from z ∷ []) fs
rule_mark room start seen f fs z e t h = grind (arith, nat_tests, rule_step room start seen f fs z e t)

-- one part more is named
pub shows_more : (seen after : OpenRule) (marks : Rule) (z : ℤ) → nat_abs z ≤ MOST_PARTS → HasNamed seen marks → after.named ≡ set seen.named (nat_abs z) true → after.count ≡ seen.count + 1 → HasNamed after (marks ++ mark_from z ∷ [])
shows_more seen after marks z small s named count =
    record {
      count_is = grind (arith, s.count_is, length_push marks (mark_from z));
      names_are = λ p h.
          grind (arith, nat_tests, common_steps, list_any-append (λ x. eqb x.part p) marks (mark_from z ∷ []), part_from z, s.names_are p h, seen.long);
    }

pub zero_bits : (z : ℤ) → nat_abs z ≡ 0 → of_z w32 z ≡ 0
zero_bits z h = grind arith

-- a part's number is short, and none of it is lost on the way into a table
pub short : (z : ℤ) → nat_abs z ≤ MOST_PARTS → SFits w16 z
short (pos n) h = record { sfits = omega arith }
short (negsuc n) h = record { sfits = omega arith }

pub cast_same : (z : ℤ) → SFits w32 z → nat_abs z ≤ MOST_PARTS → to_z w16 (of_z w16 (to_z w32 (of_z w32 z))) ≡ z
cast_same z wide h = grind (arith, to_z-of_z w32 z wide, to_z-of_z w16 z (short z h))
