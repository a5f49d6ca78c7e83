use Rattle.std.proofs.Common.{arith, rules}
use Rattle.std.proofs.lemmas.Grind.{common_steps}
use Rattle.turns.proofs.Naming.{named_none, named_more}
use Rattle.turns.proofs.name_holds.Goals as goal

pub loop-hold-init : goal.loop-hold-init
loop-hold-init c = rw named_none (search rules)
