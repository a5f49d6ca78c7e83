use Rattle.std.proofs.Common.{◌≡◌, ◌+◌}
use Rattle.parts.specs.Rows.{row_marks}
use Rattle.parts.specs.Lists.{at_place}
use Rattle.shelf.proofs.Walks.{left_from}
use Rattle.shelf.proofs.grid.U8Entry.mark.Given as goal

abbrev pub invariant-loop-i : goal.invariant-loop-i
invariant-loop-i l = at_place (left_from (l.i + 1) l.row) l.left ≡ at_place (row_marks l.row) l.k
