use Rattle.shelf.proofs.Blocks.{is_block}
use Rattle.shelf.proofs.table.TableShelf.block.Goals as goal

pub returns : goal.returns
returns g c = rw c.deref.ensures.value (is_block c.args.self.now c.args.place _ c.in_ok-start.ensures)
