-- Nothing in this module needs to be believed: it proves that both lists are sound, which the
-- checker wants beside the definitions.
use Rattle.std.specs.Prelude.{◌≡◌, ℕ, zero, suc, ◌+◌, ◌<◌, ◌≤◌, true, false, List, [], ◌∷◌, map, length, Some, None, Option, slice_index_or}
use Rattle.std.specs.List.{list_all}
use Rattle.std.specs.Option.{option_map}
use Rattle.std.proofs.Common.{arith}
use Rattle.std.proofs.lemmas.Bool.Decides.{nat_tests}
use Rattle.parts.specs.Distinct.{names, is_distinct}
use Rattle.parts.specs.Rows.{marks_from, row_marks}
use Rattle.book.specs.Meaning as books
use Rattle.book.specs.Meaning.{Rule, RuleBook, sound_rules}
use Rattle.book.specs.Proved.{rule_distinct}
use Rattle.shelf.specs.Meaning as shelves
use Rattle.shelf.specs.Meaning.{Shelved, sound_place}
use Rattle.rules.specs.Listing.{SoundList, sound_if_there, book_list, shelf_list}

book_rules : (n : ℕ) (rs : List Rule) (i : ℕ) → sound_rules n rs ≡ true
    → sound_if_there n (slice_index_or (map Some rs) i None) ≡ true
book_rules n [] i s = grind arith
book_rules n (r ∷ rs) zero s = grind (arith, rule_distinct n r)
book_rules n (r ∷ rs) (suc i) s = grind (arith, book_rules n rs i)

pub book_list_sound : (b : RuleBook) → books.Sound b → SoundList (book_list b)
book_list_sound b s = record { sound = λ i. book_rules b.n b.rules i s.rules_sound }

-- the marks of a row from a part on name no part below it
none_below : (p q : ℕ) (cs : List ℕ) → q < p → names (marks_from p cs) q ≡ false
none_below p q [] h = grind arith
none_below p q (c ∷ cs) h = grind (arith, none_below (suc p) q cs)

pub row_distinct : (n p : ℕ) (cs : List ℕ) → 1 ≤ p → p + length cs ≤ suc n
    → is_distinct n (marks_from p cs) ≡ true
row_distinct n p [] lo hi = grind arith
row_distinct n p (c ∷ cs) lo hi =
    grind (arith, nat_tests, none_below (suc p) p cs, row_distinct n (suc p) cs)

lessons : (n : ℕ) (rows : List (Option (List ℕ))) (i : ℕ) → list_all (sound_place n) rows ≡ true
    → sound_if_there n (slice_index_or (map (option_map row_marks) rows) i None) ≡ true
lessons n [] i s = grind arith
lessons n (None ∷ rows) zero s = grind arith
lessons n (Some r ∷ rows) zero s = grind (arith, nat_tests, row_distinct n 1 r)
lessons n (o ∷ rows) (suc i) s = grind (arith, lessons n rows i)

pub shelf_list_sound : (s : Shelved) → shelves.Sound s → SoundList (shelf_list s)
shelf_list_sound s k = record { sound = λ i. lessons s.n s.rows i k.rows_sound }
