-- The format of a bench sheet: which text stands for which names and holds.
use Rattle.std.specs.Prelude.{◌≡◌, ℕ, ◌+◌, ◌≤◌, IsTrue, List, [], ◌∷◌, ◌++◌, length, codes, decimal, flat_map}
use Rattle.std.specs.List.{list_all}
use Rattle.parts.specs.Codes.{side_text}
use Rattle.parts.specs.declared.limits.TheConstants.{MOST_SHEET_BYTES}
use Rattle.parts.specs.declared.mark.Mark.{Mark}
use Rattle.parts.specs.Distinct.{is_distinct}
use Rattle.text.specs.Pieces.{Piece}
use Rattle.sheet.specs.Reading.{is_name}

-- "part", number, name, with one tab (9) between them, and a line feed (10) at the end
abbrev pub part_line : ℕ → List ℕ → List ℕ
part_line k name = codes "part" ++ (9 ∷ decimal k ++ (9 ∷ name ++ 10 ∷ []))

-- "hold", number, "in" or "out"
abbrev pub hold_line : Mark → List ℕ
hold_line m = codes "hold" ++ (9 ∷ decimal m.part ++ (9 ∷ side_text m.side ++ 10 ∷ []))

-- a line for each part from k on, in order
abbrev pub part_lines : ℕ → List (List ℕ) → List ℕ
part_lines k [] = []
part_lines k (name ∷ names) = part_line k name ++ part_lines (k + 1) names

-- the one text of these names and holds
abbrev pub sheet_text : List (List ℕ) → List Mark → List ℕ
sheet_text names holds = part_lines 1 names ++ flat_map hold_line holds

-- where each name stands: after "part", a tab, its number and a tab
abbrev pub placed : ℕ → ℕ → List (List ℕ) → List Piece
placed at k [] = []
placed at k (name ∷ names) =
    record { at = at + (length (decimal k) + 6); bytes = name }
    ∷ placed (at + length (part_line k name)) (k + 1) names

-- a name for each of n parts; the holds name parts from 1 to n, none twice;
-- and the text is at most 8,000 bytes
pub record Format (n : ℕ) (names : List (List ℕ)) (holds : List Mark) (text : List ℕ) : Type 0 where
  pub is_text : text ≡ sheet_text names holds
  pub each : length names ≡ n
  pub names_are : IsTrue (list_all is_name names)
  pub holds_are : IsTrue (is_distinct n holds)
  pub short : length text ≤ MOST_SHEET_BYTES
