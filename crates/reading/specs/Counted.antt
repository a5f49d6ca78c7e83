-- How the readers speak of the lines that count.
use Rattle.std.specs.Prelude.{ℕ, Bool, true, false, List, [], ◌∷◌, filter}
use Rattle.text.specs.Pieces.{Piece}
use Rattle.text.specs.Views as text
use Rattle.grammar.specs.Reading.{counted}
use Rattle.reading.specs.declared.counted.CountedLines.{CountedLines}

-- whether there is a field
abbrev pub has_field : List Piece → Bool
has_field [] = false
has_field (f ∷ fs) = true

-- whether a line has a field that counts
abbrev pub counts : Piece → Bool
counts l = has_field (counted l)

-- the lines that are left, and those of them that count
abbrev pub all_lines : CountedLines → List Piece
all_lines l = text.lines_left l.lines

abbrev pub lines_left : CountedLines → List Piece
lines_left l = filter counts (all_lines l)

-- where the text ends
abbrev pub text_end : CountedLines → ℕ
text_end l = text.text_end l.lines
