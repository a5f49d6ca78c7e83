use Rattle.std.proofs.Common.{◌≡◌, ◌+◌, ◌≤◌, ◌∷◌, map, length, get_or, take, drop, suc}
use Rattle.parts.specs.Rows.{row_marks}
use Rattle.shelf.specs.Listed.{entry_of}
use Rattle.shelf.proofs.list.U16Entry.write_row.Given as goal

abbrev pub invariant-loop-i : goal.invariant-loop-i
invariant-loop-i l =
    (l.head ≡ suc (length (row_marks (take l.i l.row))))
    × (l.head ≤ l.i + 1)
    × (take l.head l.block ≡ get_or l.initial.block 0 0 ∷ map entry_of (row_marks (take l.i l.row)))
    × (drop l.head l.block ≡ drop l.head l.initial.block)
