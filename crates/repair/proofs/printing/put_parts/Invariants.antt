use Rattle.std.proofs.Common.{◌≡◌, ◌+◌, ◌-◌, ◌*◌, ◌≤◌, ◌++◌, drop, length, map}
use Rattle.sheet.specs.Views.{name_of}
use Rattle.repair.specs.Printing.{parts_text}
use Rattle.repair.specs.declared.page.TheConstants.{PAGE_BYTES, LINE_BYTES}
use Rattle.repair.proofs.printing.put_parts.Given as goal

abbrev pub invariant-loop-i : goal.invariant-loop-i
invariant-loop-i l =
    (l.page.bytes ++ parts_text l.word l.row l.i (drop l.i (map name_of l.names)) ≡ l.initial.page.bytes ++ parts_text l.word l.row 0 (map name_of l.names))
    × (length l.page.bytes + LINE_BYTES * (length l.names - l.i) ≤ PAGE_BYTES)
