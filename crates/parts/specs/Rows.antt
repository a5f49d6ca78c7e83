-- Rows of codes: the marks that a row names, and whether it leaves a part open.
use Rattle.std.specs.Prelude.{ℕ, suc, Bool, true, false, not, List, [], ◌∷◌, Some, None, Option, ◌==◌}
use Rattle.std.specs.List.{list_all}
use Rattle.std.specs.Option.{option_and_then}
use Rattle.parts.specs.Codes.{side_of}
use Rattle.parts.specs.declared.mark.Mark.{Mark}
use Rattle.parts.specs.declared.side.Side.{Side}
use Rattle.parts.specs.declared.side.Side.TheVariants.{In, Out}
use Rattle.parts.specs.Lists.{at_place}

-- a code for each part
abbrev pub Row : Type 0
Row = List ℕ

abbrev pub with_mark : Option Side → ℕ → List Mark → List Mark
with_mark None part ms = ms
with_mark (Some side) part ms = record { part = part; side = side } ∷ ms

-- the marks of the codes from a part on
abbrev pub marks_from : ℕ → Row → List Mark
marks_from part [] = []
marks_from part (c ∷ cs) = with_mark (side_of c) part (marks_from (suc part) cs)

-- the marks that a row names, by rising part
abbrev pub row_marks : Row → List Mark
row_marks cs = marks_from 1 cs

-- the side that a row puts a part on
abbrev pub side_in : Row → ℕ → Option Side
side_in row part = option_and_then side_of (at_place row part)

abbrev pub same_side : Side → Side → Bool
same_side In In = true
same_side In Out = false
same_side Out In = false
same_side Out Out = true

abbrev pub is_side : Option Side → Side → Bool
is_side None s = false
is_side (Some v) s = same_side v s

-- whether a row names a mark
unfoldable pub names_mark : Row → Mark → Bool
names_mark row m = is_side (side_in row m.part) m.side

-- no part is open
abbrev pub is_full : Row → Bool
is_full row = list_all (λ c. not (c == 0)) row
