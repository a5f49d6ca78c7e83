use Rattle.std.proofs.Common.{◌≡◌, ◌<◌, length, get_or, arith}
use Rattle.std.proofs.lemmas.Grind.{common_steps}
use Rattle.std.proofs.lemmas.Option.{gets}
use Rattle.repair.proofs.Lines.{one_more}
use Rattle.repair.proofs.printing.put_parts.Goals as goal

pub loop-i-preserved : goal.loop-i-preserved
loop-i-preserved c =
    let inside : c.loop-i.i < length c.args.names.now = omega arith in
    let code : c.unwrap_or-code.result ≡ get_or c.args.row.now c.loop-i.i 0 = grind (arith, common_steps, gets) in (
      rw c.put_part.ensures.text (one_more c.args.word.now c.args.row.now c.args.names.now c.loop-i.i c.unwrap_or-code.result c.index-names-i.result c.loop-i.page.bytes _ inside code c.index-names-i.is c.loop-i.invariant.0),
      omega (arith, c.put_part.ensures.short, c.loop-i.invariant.1, inside),
    )
