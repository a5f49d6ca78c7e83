use Rattle.std.proofs.Common.{List, length}
use Rattle.book.specs.Meaning.{Rule}
use Rattle.reading.specs.Fills.{ReadsOn}
use Rattle.reading.specs.Counted.{lines_left, text_end}
use Rattle.reading.proofs.FillSteps.{room_in, Fills}
use Rattle.reading.proofs.filling.fill.Given as goal

-- whatever the lines from the start read as, the tables have it up to the loop's start
abbrev pub invariant-loop-end : goal.invariant-loop-end
invariant-loop-end l =
    let h = l.fn.head in
    (rs : List Rule) → ReadsOn h (length l.initial.marks) (length l.initial.ends) rs
    → Fills (room_in h.size.n l.initial.marks l.initial.ends) (text_end h.rules) h.size.m rs l.initial.marks l.initial.ends (lines_left l.lines) l.end-index l.used l.marks l.ends
