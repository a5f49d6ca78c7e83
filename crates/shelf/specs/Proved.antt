-- Nothing in this module needs to be believed: it proves that the shelves are sound, which the
-- checker wants beside the definitions.
use Rattle.std.specs.Prelude.{◌≡◌, ℕ, zero, suc, ◌+◌, Bool, true, List, [], ◌∷◌, map, length, drop, Option, nat_le, refl}
use Rattle.std.specs.List.{list_all}
use Rattle.std.proofs.Common.{◌∙◌, arith}
use Rattle.std.proofs.lemmas.Bool.Decides.{nat_tests}
use Rattle.std.proofs.lemmas.List.{length-map}
use Rattle.parts.specs.Codes.{all_codes}
use Rattle.parts.specs.declared.mark.Mark.{Mark}
use Rattle.shelf.specs.Meaning.{Sound, sound_place}
use Rattle.shelf.specs.Table.{Sized, blocks, read_by}
use Rattle.shelf.specs.Listed.{block_marks, formed_marks, code_in, codes_by, read_marks, listed}

pub length_blocks : {X : Type 0} (width places : ℕ) (entries : List X)
    → length (blocks width places entries) ≡ places
length_blocks width zero entries = refl
length_blocks width (suc places) entries =
    grind (arith, length_blocks width places (drop width entries))

module _ {X : Type 0} (row : List X → Option (List ℕ)) (n : ℕ) where
  pub length_rows : (places : ℕ) (entries : List X)
      → length (read_by row n places entries).rows ≡ places
  length_rows places entries =
      length-map (blocks (n + 1) places entries) row ∙ length_blocks (n + 1) places entries

  -- a table is a sound shelf where what stands in each place is a row
  pub read_sound : (places size : ℕ) (entries : List X) → Sized n places size
      → list_all (sound_place n) (read_by row n places entries).rows ≡ true
      → Sound (read_by row n places entries)
  read_sound places size entries z h =
      let e = length_rows places entries in
      record {
        some = z.some;
        few = z.few;
        enough = omega arith;
        most = omega arith;
        rows_sound = h;
      }

  -- where a block that is well formed is empty or holds a row, so does each place
  module _ (formed : List X → Bool)
      (sound : (block : List X) → formed block ≡ true → sound_place n (row block) ≡ true) where
    rows_sound : (bs : List (List X)) → list_all formed bs ≡ true
        → list_all (sound_place n) (map row bs) ≡ true
    rows_sound [] h = refl
    rows_sound (b ∷ bs) h = grind (arith, sound b, rows_sound bs)

    pub table_sound : (places size : ℕ) (entries : List X) → Sized n places size
        → list_all formed (blocks (n + 1) places entries) ≡ true
        → Sound (read_by row n places entries)
    table_sound places size entries z h =
        read_sound places size entries z (rows_sound (blocks (n + 1) places entries) h)

-- whatever the marks are, the codes that they give are a row
code_in_low : (ms : List Mark) (part : ℕ) → nat_le (code_in ms part) 2 ≡ true
code_in_low [] part = refl
code_in_low (m ∷ ms) part = grind (arith, code_in_low ms part)

codes_low : (part count : ℕ) (ms : List Mark) → all_codes (codes_by part count ms) ≡ true
codes_low part zero ms = refl
codes_low part (suc count) ms = grind (arith, code_in_low ms part, codes_low (suc part) count ms)

pub length_codes : (part count : ℕ) (ms : List Mark) → length (codes_by part count ms) ≡ count
length_codes part zero ms = refl
length_codes part (suc count) ms = grind (arith, length_codes (suc part) count ms)

pub list_sound : (n : ℕ) (block : List ℕ) → sound_place n (read_marks n block) ≡ true
list_sound n block =
    grind (
      arith,
      nat_tests,
      length_codes 1 n (block_marks block),
      codes_low 1 n (block_marks block),
    )

read_rows : (n : ℕ) (bs : List (List ℕ))
    → list_all (sound_place n) (map (read_marks n) bs) ≡ true
read_rows n [] = refl
read_rows n (b ∷ bs) = grind (arith, list_sound n b, read_rows n bs)

-- lists of marks are a sound shelf, whatever stands in their table
pub listed_sound : (n places size : ℕ) (entries : List ℕ) → Sized n places size
    → Sound (listed n places entries)
listed_sound n places size entries z =
    read_sound (read_marks n) n places size entries z (read_rows n (blocks (n + 1) places entries))

pub zero_formed : (n : ℕ) (rest : List ℕ) → formed_marks n (0 ∷ rest) ≡ true
zero_formed n rest = grind (arith, nat_tests)
