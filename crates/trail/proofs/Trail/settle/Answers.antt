use Rattle.std.proofs.Common.{arith}
use Rattle.trail.proofs.Stacking.{grown}
use Rattle.trail.proofs.Trail.settle.Goals as goal

pub invariant_of-self : goal.invariant_of-self
invariant_of-self c =
    let now = grown c.self.inside.n c.self.inside.entries.items c.self.inside.row c.args.mark c.self.invariant (grind arith) c.args.kind in
    rw (c.push.ensures.items, c.from.ensures) now
