use Rattle.std.proofs.Common.{arith}
use Rattle.lessons.proofs.Lessons.{one_swept}
use Rattle.lessons.proofs.forget.sweep.Goals as goal

pub loop-before-preserved : goal.loop-before-preserved
loop-before-preserved g c = one_swept _ _ _ _ _ _ c.loop-before.invariant _ (omega arith) (grind arith)
