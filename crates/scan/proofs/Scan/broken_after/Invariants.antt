use Rattle.std.proofs.Common.{◌≡◌, ◌+◌}
use Rattle.rules.specs.Listing.{rule_in}
use Rattle.search.specs.Machine.{marks_at}
use Rattle.search.specs.Trail.{state}
use Rattle.scan.specs.Scanning.{first_in, broken_in}
use Rattle.scan.specs.Under.{rules_of, row_of}
use Rattle.scan.proofs.Scans.{onward}
use Rattle.scan.proofs.Scan.broken_after.Given as goal

abbrev pub invariant-rules : goal.invariant-rules
invariant-rules g l =
    broken_in (first_in (row_of l.self) (l.before + 1) (onward (l.before + 1) (rules_of l.self)))
    ≡ broken_in (first_in (row_of l.self) (l.fn.from + 1) (onward (l.fn.from + 1) (rules_of l.self)))

abbrev pub invariant-loop-at : goal.invariant-loop-at
invariant-loop-at g l =
    let ms = marks_at (rule_in (rules_of l.self) l.rule) in
    state (row_of l.self) (onward (l.at + 1) ms) ≡ state (row_of l.self) ms
