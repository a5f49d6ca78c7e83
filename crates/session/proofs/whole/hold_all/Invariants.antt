use Rattle.std.proofs.Common.{◌≡◌, false, take}
use Rattle.session.specs.Solving.{names_twice}
use Rattle.session.proofs.whole.hold_all.Given as goal

abbrev pub invariant-loop-mark : goal.invariant-loop-mark
invariant-loop-mark l = (l.held ≡ take l.mark-index l.marks) × (names_twice (take l.mark-index l.marks) ≡ false)
