use Rattle.std.proofs.Common.{length, ◌∙◌, arith}
use Rattle.std.proofs.lemmas.List.{with_items_is}
use Rattle.reading.proofs.ReadLaws.{fault_read}
use Rattle.reading.proofs.loading.load_over.Goals as goal

-- a refused reading left the tables as they were
pub returns-in-Err-clause-tables : goal.returns-in-Err-clause-tables
returns-in-Err-clause-tables c =
    let marks = with_items_is c.args.tables.marks c.read.new.marks (c.read.auto.marks ∙ c.deref_mut.ensures.len) in
    let ends = with_items_is c.args.tables.ends c.read.new.ends (c.read.auto.ends ∙ c.deref_mut-2.ensures.len) in
    let read = fault_read _ _ c.in-Err.ensures.reply in
    (marks ∙ ((rw read at c.in-Err.ensures.marks) ∙ c.deref_mut.ensures.value), ends ∙ ((rw read at c.in-Err.ensures.ends) ∙ c.deref_mut-2.ensures.value))
