use Rattle.std.proofs.Common.{Some, arith}
use Rattle.std.proofs.lemmas.Bool.Decides.{nat_tests}
use Rattle.shelf.specs.Proved.{length_rows}
use Rattle.shelf.proofs.Blocks.{block_written, block_overwritten}
use Rattle.shelf.proofs.table.TableShelfShelf.write.Goals as goal

pub invariant_of-self-clause-kept : goal.invariant_of-self-clause-kept
invariant_of-self-clause-kept g c =
    let m = block_written c.args.self.now c.args.place _ c.in_ok-start.ensures _ _ c.deref_mut.ensures.value c.write_row.auto.block in
    grind (arith, nat_tests, m.kept, c.write_row.ensures.kept, c.if-not-is_row.ensures)

pub returns : goal.returns
returns g c =
    let m = block_written c.args.self.now c.args.place _ c.in_ok-start.ensures _ _ c.deref_mut.ensures.value c.write_row.auto.block in
    let f = block_overwritten c.args.self.now c.args.place _ c.in_ok-start.ensures _ _ c.deref_mut.ensures.value c.write_row.auto.block _ c.write_row.ensures.entries in
    grind (arith, nat_tests, length_rows, m.after (Some c.args.row.now), c.write_row.ensures.row, c.if-not-is_row.ensures)
