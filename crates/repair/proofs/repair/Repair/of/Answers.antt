use Rattle.std.proofs.Common.{◌≡◌, sym, Ok}
use Rattle.parts.specs.declared.limits.TheConstants.{MOST_PARTS, MOST_TEXT_MARKS, MOST_TEXT_RULES}
use Rattle.book.specs.Makes.{text_book}
use Rattle.grammar.specs.Format.{Format}
use Rattle.grammar.proofs.Accepted.{reading_is_the_format}
use Rattle.sheet.specs.Format.{placed}
use Rattle.repair.specs.Promise.{reads}
use Rattle.repair.proofs.Named.{placed_length, short_row}
use Rattle.repair.proofs.repair.Repair.of.Goals as goal
use Rattle.repair.proofs.repair.Repair.of.Goals.{After-n}

is_book : (c : After-n) → reads c.args.text.now ≡ Ok (text_book c.in-Ok.book)
is_book c = rw (c.args.workspace.marks, c.args.workspace.ends) at c.in-Ok.ensures.value

format : (c : After-n) → Format (text_book c.in-Ok.book) c.args.text.now
format c = ((reading_is_the_format MOST_TEXT_MARKS MOST_TEXT_RULES c.args.text.now).only _ (is_book c)).0

pub solve_under-solution-requires-clause-blank : goal.solve_under-solution-requires-clause-blank
solve_under-solution-requires-clause-blank c =
    let q = (goal.at.solve_under-solution-requires-clause-blank c).After-n in
    let few = (format q).few in
    rw (c.truncate.ensures.items, c.args.workspace.blank, c.n.ensures) (short_row 0 (text_book c.in-Ok.book).n MOST_PARTS few)

pub invariant_of-result : goal.invariant_of-result
invariant_of-result c =
    let q = (goal.at.invariant_of-result c).After-n in
    let (names, placed, f) = c.in_ok-sheet.ensures.format.only _ (sym c.in_ok-sheet.ensures.reply) in
    let few = (format q).few in
    record { few = rw (placed, placed_length 0 1 names, f.each) few }

pub returns : goal.returns
returns c =
    let q = (goal.at.returns c).After-n in
    let says = sym c.in_ok-sheet.ensures.reply in
    record {
      book = text_book c.in-Ok.book;
      is_book = is_book q;
      is_sheet = says;
      book_format = format q;
      sheet_format = c.in_ok-sheet.ensures.format.only _ says;
      solved = rw c.holds.ensures at c.solve_under-solution.ensures;
    }
