use Rattle.std.proofs.Common.{◌≡◌, ◌+◌}
use Rattle.rules.specs.Listing.{rule_in}
use Rattle.search.specs.Machine.{marks_at}
use Rattle.search.specs.Trail.{state}
use Rattle.scan.specs.Scanning.{first_in}
use Rattle.scan.specs.Under.{rules_of, row_of}
use Rattle.scan.proofs.Scans.{free, onward}
use Rattle.scan.proofs.Scan.first.Given as goal

abbrev pub invariant-rules : goal.invariant-rules
invariant-rules g l =
    first_in (row_of l.self) (l.before + 1) (onward (l.before + 1) (rules_of l.self)) ≡ first_in (row_of l.self) 1 (rules_of l.self)

abbrev pub invariant-marks : goal.invariant-marks
invariant-marks g l =
    let ms = marks_at (rule_in (rules_of l.self) l.rule) in
    free l.free (state (row_of l.self) (onward (l.passed + 1) ms)) ≡ state (row_of l.self) ms
