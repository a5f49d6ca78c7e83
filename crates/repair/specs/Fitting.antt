-- What is printed of two files, from their bytes: THE WHOLE TEXT, refusals and absent files
-- included.
use Rattle.std.specs.Prelude.{ℕ, List, [], Ok, Err, Option, Result}
use Rattle.std.specs.Option.{unwrap_or}
use Rattle.parts.specs.declared.fault.Fault.{Fault}
use Rattle.book.specs.Meaning.{RuleBook}
use Rattle.search.specs.Calls.{report}
use Rattle.sheet.specs.Reading.{Said, sheet_of}
use Rattle.repair.specs.Promise.{reads, end_state, end_row}
use Rattle.repair.specs.Printing.{refused_text, solution_text}

-- of a book, and of what a sheet for it reads as
abbrev pub sheet_text : RuleBook → Result Said Fault → List ℕ
sheet_text b (Err f) = refused_text f
sheet_text b (Ok s) = solution_text (report (end_state b s.holds)) (end_row b s.holds) s.names

-- of what a book's text reads as, and of a sheet
abbrev pub book_text : Result RuleBook Fault → List ℕ → List ℕ
book_text (Err f) sheet = refused_text f
book_text (Ok b) sheet = sheet_text b (sheet_of b.n sheet)

-- of two files: one that is not there counts as empty
abbrev pub fit_text : Option (List ℕ) → Option (List ℕ) → List ℕ
fit_text book sheet = book_text (reads (unwrap_or book [])) (unwrap_or sheet [])
