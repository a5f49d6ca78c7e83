use Rattle.std.proofs.Common.{◌≡◌, length}
use Rattle.text.specs.Views.{lines_left}
use Rattle.sheet.specs.Reading.{sheet_of, said_on}
use Rattle.sheet.proofs.sheet.Sheet.read.Given as goal

-- what is said and the lines that are left read as the whole sheet does
abbrev pub invariant-loop-line : goal.invariant-loop-line
invariant-loop-line g l = said_on l.n (length l.text) l.sheet (lines_left l.line-iterator) ≡ sheet_of (g.B.Book.meaning l.book).n l.text
