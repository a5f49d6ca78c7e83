-- What the names and the lines of a sheet stand for.
use Rattle.std.specs.Prelude.{◌≡◌, Ok, Err, Result}
use Rattle.parts.specs.declared.fault.Fault.{Fault}
use Rattle.text.specs.Pieces.{Piece}
use Rattle.sheet.specs.Reading as reading
use Rattle.sheet.specs.Reading.{Said}
use Rattle.sheet.specs.declared.name.Name.{Name}
use Rattle.sheet.specs.declared.line.Line.{Line}
use Rattle.sheet.specs.declared.line.Line.TheVariants.{Part, Hold}

-- a name, as a piece of the sheet's text
abbrev pub name_of : Name → Piece
name_of n = record { at = n.at; bytes = n.text.now }

abbrev pub line_is : Line → reading.Line
line_is (Part k n) = reading.part k (name_of n)
line_is (Hold m) = reading.hold m

-- a line is refused, or what was said grows by what it says
abbrev pub SaidBy : Result Said Fault → Result (Unit {0}) Fault → Said → Type 0
SaidBy says (Ok u) s = says ≡ Ok s
SaidBy says (Err e) s = says ≡ Err e
