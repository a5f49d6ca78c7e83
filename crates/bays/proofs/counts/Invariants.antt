use Rattle.std.proofs.Common.{◌≡◌, ◌+◌, ◌*◌, ◌≤◌, drop, sum}
use Rattle.parts.specs.declared.limits.TheConstants.{MOST_PARTS, MOST_WIDTH}
use Rattle.bays.specs.Meaning.{rule_count, widths_in_range}
use Rattle.bays.proofs.counts.Given as goal

abbrev pub invariant-loop-width : goal.invariant-loop-width
invariant-loop-width l =
    (l.n ≤ MOST_PARTS) × (l.rules ≤ (MOST_WIDTH + 1) * l.n)
    × (l.n + sum (drop l.width-index l.widths) ≡ sum l.widths)
    × (l.rules + rule_count (drop l.width-index l.widths) ≡ rule_count l.widths)
    × (widths_in_range (drop l.width-index l.widths) ≡ widths_in_range l.widths)
