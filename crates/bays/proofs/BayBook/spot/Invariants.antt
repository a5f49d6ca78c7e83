use Rattle.std.proofs.Common.{◌≡◌, ◌+◌, ◌-◌, drop, slice_get, sum, vec_items}
use Rattle.bays.specs.Meaning.{bays_rules}
use Rattle.bays.proofs.BayBook.spot.Given as goal

abbrev pub invariant-loop-width : goal.invariant-loop-width
invariant-loop-width l =
    let ws = vec_items l.self.widths in
    (l.from + sum (drop l.width-index ws) ≡ 1 + sum ws)
    × (slice_get (bays_rules l.from (drop l.width-index ws)) l.number ≡ slice_get (bays_rules 1 ws) (l.rule - 1))
