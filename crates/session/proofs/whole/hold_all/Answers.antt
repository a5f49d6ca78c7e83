use Rattle.std.proofs.Common.{arith}
use Rattle.std.proofs.lemmas.Bool.Decides.{nat_tests}
use Rattle.std.proofs.lemmas.List.{take_more}
use Rattle.parts.specs.declared.mark.Mark.{Mark}
use Rattle.parts.specs.declared.side.Side.TheVariants.{In}
use Rattle.session.proofs.Solves.{twice_more}
use Rattle.session.proofs.whole.hold_all.Goals as goal

pub loop-mark-preserved : goal.loop-mark-preserved
loop-mark-preserved c =
    let hs = c.args.marks.now in
    let i = c.loop-mark.mark-index in
    let d : Mark = record { part = 0; side = In } in
    let more = twice_more hs i d c.loop-mark-test.true in
    let one = take_more hs i d c.loop-mark-test.true in
    grind (arith, nat_tests, more, one)
