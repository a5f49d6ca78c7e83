-- Marks whose parts rise and the codes that they give: each from the other.
use Rattle.std.proofs.Common.{◌≡◌, ℕ, zero, suc, ◌+◌, ◌-◌, ◌<◌, ◌≤◌, true, List, [], ◌∷◌, ◌++◌, map, length, get_or, refl, arith}
use Rattle.std.proofs.lemmas.Bool.Decides.{nat_tests}
use Rattle.std.proofs.lemmas.List.{take_more, length-take-le, length-map}
use Rattle.std.proofs.lemmas.Option.{slice_get-map, slice_get_past, slice_get-get_or}
use Rattle.parts.specs.declared.mark.Mark.{Mark}
use Rattle.parts.specs.declared.side.Side.{Side}
use Rattle.parts.specs.declared.side.Side.TheVariants.{In, Out}
use Rattle.parts.specs.Codes.{side_of, all_codes}
use Rattle.parts.specs.Rows.{with_mark, marks_from}
use Rattle.shelf.specs.Listed.{entry_of, mark_of_entry, rises, code_in, codes_by}

-- marks come back from their entries
pub entries_back : (ms : List Mark) → map mark_of_entry (map entry_of ms) ≡ ms
entries_back [] = refl
entries_back (m ∷ ms) = grind (arith, nat_tests, entries_back ms)

-- a part's code among the codes
pub code_at_part : (part count i : ℕ) (ms : List Mark) → i < count → get_or (codes_by part count ms) i 0 ≡ code_in ms (part + i)
code_at_part part zero i ms l = absurd (omega arith)
code_at_part part (suc count) zero ms l = grind arith
code_at_part part (suc count) (suc i) ms l = grind (arith, code_at_part (suc part) count i ms)

-- a mark below all parts gives none of them a code
codes_past : (m : Mark) (ms : List Mark) (p count : ℕ) → m.part < p → codes_by p count (m ∷ ms) ≡ codes_by p count ms
codes_past m ms p zero l = refl
codes_past m ms p (suc count) l = grind (arith, nat_tests, codes_past m ms (suc p) count)

code_below : (p q n : ℕ) (ms : List Mark) → p < q → rises q n ms ≡ true → code_in ms p ≡ 0
code_below p q n [] l h = refl
code_below p q n (m ∷ ms) l h = grind (arith, nat_tests, code_below p (suc m.part) n ms)

-- the marks come back from the codes that they give
pub marks_back : (p count : ℕ) (ms : List Mark) → 1 ≤ p → rises p (p + count - 1) ms ≡ true → marks_from p (codes_by p count ms) ≡ ms
marks_back p zero [] l h = refl
marks_back p zero (m ∷ ms) l h = grind (arith, nat_tests)
marks_back p (suc count) [] l h = marks_back (suc p) count [] (omega arith) refl
marks_back p (suc count) (m ∷ ms) l h =
    grind (arith, nat_tests, codes_past m ms (suc p) count, marks_back (suc p) count ms, code_below p (suc p) (p + count) (m ∷ ms), marks_back (suc p) count (m ∷ ms))

-- a row's marks rise, and give its codes back
pub marks_rise : (q p n : ℕ) (row : List ℕ) → q ≤ p → p + length row ≡ suc n → all_codes row ≡ true → rises q n (marks_from p row) ≡ true
marks_rise q p n [] l e h = refl
marks_rise q p n (c ∷ cs) l e h = grind (arith, nat_tests, marks_rise q (suc p) n cs, marks_rise (suc p) (suc p) n cs)

pub codes_back : (p : ℕ) (row : List ℕ) → all_codes row ≡ true → codes_by p (length row) (marks_from p row) ≡ row
codes_back p [] h = refl
codes_back p (c ∷ cs) h =
    let ms = marks_from (suc p) cs in
    let past = λ (s : Side). codes_past (record { part = p; side = s }) ms (suc p) (length cs) in
    grind (arith, nat_tests, marks_rise (suc p) (suc p) (p + length cs) cs, codes_back (suc p) cs, code_below p (suc p) (p + length cs) ms, past In, past Out)

-- one more code gives one more mark or none
pub marks_push : (p : ℕ) (xs : List ℕ) (c : ℕ) → marks_from p (xs ++ (c ∷ [])) ≡ marks_from p xs ++ with_mark (side_of c) (p + length xs) []
marks_push p [] c = grind arith
marks_push p (x ∷ xs) c = grind (arith, marks_push (suc p) xs c)

-- what stands at a place of a list that was mapped
pub ruleset mapped = (length-map, slice_get-map, slice_get_past, slice_get-get_or)
