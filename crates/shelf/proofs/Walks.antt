-- A walk along a row by the codes that a shelf answers, part by part.
use Rattle.std.proofs.Common.{◌≡◌, ℕ, zero, suc, ◌+◌, ◌-◌, ◌≤◌, true, List, [], length, get_or, drop, Some, None, Ok, Option, refl, arith}
use Rattle.std.proofs.lemmas.List.{at_drop_more, drop_all, get_or_past}
use Rattle.std.proofs.lemmas.Bool.Decides.{nat_tests}
use Rattle.std.specs.List.{list_all}
use Rattle.std.proofs.lemmas.List.Recursion.{and_at}
use Rattle.parts.specs.declared.mark.Mark.{Mark}
use Rattle.parts.specs.Codes.{side_of}
use Rattle.parts.specs.Rows.{with_mark, marks_from}
use Rattle.shelf.specs.declared.Shelf.{Ghosts}
use Rattle.shelf.specs.Meaning.{Shelved, Sound, sound_place, row_at, code_of_place}

-- what stands at a place is a row, or nothing
row_sound : (s : Shelved) → Sound s → (place : ℕ) → sound_place s.n (row_at s place) ≡ true
row_sound s ok zero = refl
row_sound s ok (suc k) = grind (arith, get_or_past s.rows k None, and_at (list_all (sound_place s.n)) (sound_place s.n) refl (λ x xs. refl) s.rows k None)

-- the marks of what is left of a row from a part on
abbrev pub left_from : ℕ → List ℕ → List Mark
left_from part row = marks_from part (drop (part - 1) row)

-- the row that a code is of: its marks from the part on, and that none are left past the last part
abbrev Shows : Shelved → ℕ → ℕ → ℕ → Type 0
Shows s place part code =
    (row : List ℕ) × (row_at s place ≡ Some row) × (left_from part row ≡ with_mark (side_of code) part (left_from (part + 1) row)) × (s.n ≤ part → left_from (part + 1) row ≡ [])

shows_at : (s : Shelved) → Sound s → (place part code : ℕ) → code_of_place s place part ≡ Ok (Some code) → (o : Option (List ℕ)) → row_at s place ≡ o → Shows s place part code
shows_at s ok place part code c None e = absurd (grind (arith, nat_tests))
shows_at s ok place part code c (Some row) e =
    let k = row_sound s ok place in
    let l : (1 ≤ part) × (part ≤ length row) × (length row ≡ s.n) × (code ≡ get_or row (part - 1) 0) = grind (arith, nat_tests) in
    (row, e, grind (arith, at_drop_more (marks_from part) row (part - 1) 0), grind (arith, drop_all part row))

-- the first part asks for the code, the second says what it shows
pub code_shown : {S : Type 0} (g : Ghosts S) (s : S) (place part : ℕ) → (code_of_place (g.meaning s) place part ≡ code_of_place (g.meaning s) place part) × ((code : ℕ) → code_of_place (g.meaning s) place part ≡ Ok (Some code) → Shows (g.meaning s) place part code)
code_shown g s place part = (refl, λ code c. shows_at (g.meaning s) (g.sound s) place part code c (row_at (g.meaning s) place) refl)
