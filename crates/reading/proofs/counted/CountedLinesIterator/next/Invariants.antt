use Rattle.std.proofs.Common.{◌≡◌, length}
use Rattle.reading.specs.Counted.{all_lines, lines_left, text_end}
use Rattle.reading.proofs.counted.CountedLinesIterator.next.Given as goal

abbrev pub invariant-loop-line : goal.invariant-loop-line
invariant-loop-line l = (lines_left l.self ≡ lines_left l.initial.self) × (text_end l.self ≡ text_end l.initial.self)

abbrev pub decreases-loop-line : goal.decreases-loop-line
decreases-loop-line l = length (all_lines l.self)
