use Rattle.parts.specs.declared.limits.TheConstants.{MOST_TEXT_MARKS}
use Rattle.std.proofs.Common.{◌≡◌, ◌≤◌}
use Rattle.grammar.specs.Reading.{rules_of}
use Rattle.reading.specs.Checks.{done_or_fault}
use Rattle.reading.specs.Counted.{lines_left, text_end}
use Rattle.reading.proofs.head.Head.check_lines.Given as goal

abbrev pub invariant-loop-done : goal.invariant-loop-done
invariant-loop-done l =
    let reads = rules_of l.room (text_end l.self.rules) l.self.size.m in
    (l.used ≤ MOST_TEXT_MARKS) × (done_or_fault (reads l.done l.used (lines_left l.lines)) ≡ done_or_fault (reads 0 0 (lines_left l.self.rules)))
