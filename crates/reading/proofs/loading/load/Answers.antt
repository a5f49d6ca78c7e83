use Rattle.std.proofs.Common.{ap, ◌∙◌, ℤ, ℕ}
use Rattle.book.specs.Makes.{text_book}
use Rattle.book.specs.Tables.{mark_table, end_table}
use Rattle.reading.specs.Fills.{with_front}
use Rattle.reading.proofs.loading.load.Goals as goal

-- the tables were zeros
pub returns-in-Ok-clause-tables : goal.returns-in-Ok-clause-tables
returns-in-Ok-clause-tables c =
    let rules = (text_book c.in-Ok.book).rules in
    let filled = c.in-Ok.ensures.tables in
    let zeros = c.in_ok-tables.ensures in
    (filled.0 ∙ ap (with_front {X = ℤ} (mark_table rules)) zeros.0, filled.1 ∙ ap (with_front {X = ℕ} (end_table 0 rules)) zeros.1)
