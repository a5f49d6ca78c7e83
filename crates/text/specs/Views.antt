-- What pieces, and the lines and fields that are left, stand for.
use Rattle.std.specs.Prelude.{ℕ, ◌+◌, List, length}
use Rattle.text.specs.Pieces.{Piece, lines, fields}
use Rattle.text.specs.declared.piece.Piece.{Piece as Read}
use Rattle.text.specs.declared.fields.Fields.{Fields}
use Rattle.text.specs.declared.lines.Lines.{Lines}

-- a piece that was read, by definition
abbrev pub piece_of : Read → Piece
piece_of p = record { at = p.at; bytes = p.bytes.now }

-- the fields that are left
abbrev pub fields_left : Fields → List Piece
fields_left f = fields f.at f.rest.now

-- the lines that are left
abbrev pub lines_left : Lines → List Piece
lines_left l = lines l.at l.rest.now

-- where the text ends
abbrev pub text_end : Lines → ℕ
text_end l = l.at + length l.rest.now
