use Rattle.std.proofs.Common.{◌≡◌, ◌-◌, slice_get}
use Rattle.bays.specs.Meaning.{pairs}
use Rattle.bays.proofs.spots.Bay.pair_at.Given as goal

abbrev pub invariant-loop-low : goal.invariant-loop-low
invariant-loop-low l = slice_get (pairs l.low (l.end - l.low)) l.left ≡ slice_get (pairs l.fn.self.from l.fn.self.width) l.number
