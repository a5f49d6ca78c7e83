use Rattle.std.proofs.Common.{◌≡◌, ◌+◌, ◌≤◌, true, length, drop}
use Rattle.parts.specs.Codes.{all_codes}
use Rattle.parts.specs.Rows.{row_marks}
use Rattle.shelf.proofs.Walks.{left_from}
use Rattle.shelf.proofs.grid.U8Entry.marks.Given as goal

abbrev pub invariant-loop-code : goal.invariant-loop-code
invariant-loop-code l =
    (l.marks + length (left_from (l.code-index + 1) l.row) ≡ length (row_marks l.row)) × (l.marks ≤ l.code-index) × (all_codes (drop l.code-index l.row) ≡ true)
