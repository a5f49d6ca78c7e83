use Rattle.std.proofs.Common.{◌≡◌, length, take}
use Rattle.search.specs.Machine.{named_holds}
use Rattle.turns.proofs.name_holds.Given as goal

abbrev pub invariant-loop-hold : goal.invariant-loop-hold
invariant-loop-hold l = l.named ≡ named_holds (length l.named) l.work (take l.hold-index l.holds)
