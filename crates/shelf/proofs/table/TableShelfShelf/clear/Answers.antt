use Rattle.std.proofs.Common.{None, arith}
use Rattle.std.proofs.lemmas.Bool.Decides.{nat_tests}
use Rattle.shelf.specs.Proved.{length_rows}
use Rattle.shelf.proofs.Blocks.{block_emptied}
use Rattle.shelf.proofs.table.TableShelfShelf.clear.Goals as goal

pub invariant_of-self-clause-kept : goal.invariant_of-self-clause-kept
invariant_of-self-clause-kept g c = (block_emptied c.args.self.now c.args.place _ c.in_ok-start.ensures _ c.EMPTY.ensures).kept (g.met.E.Entry.empty_formed c.args.self.now.n _)

pub returns : goal.returns
returns g c =
    let m = block_emptied c.args.self.now c.args.place _ c.in_ok-start.ensures _ c.EMPTY.ensures in
    grind (arith, nat_tests, length_rows, m.after None (g.met.E.Entry.reads_empty c.args.self.now.n _))
