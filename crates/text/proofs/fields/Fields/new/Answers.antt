use Rattle.std.proofs.Common.{rules, tests}
use Rattle.std.proofs.lemmas.Iterator.{YieldsList-from_slice}
use Rattle.std.proofs.lemmas.List.{take_rest}
use Rattle.text.specs.Pieces.{blank}
use Rattle.text.proofs.Runs.{leading, blank_run}
use Rattle.text.proofs.fields.Fields.new.Goals as goal

pub returns : goal.returns
returns c =
    let bs = c.args.line.bytes.now in
    let n = leading _ blank c.count-blanks.result c.count-blanks.ensures.ran (YieldsList-from_slice bs cc) c.take_while.ensures.closure c.take_while.ensures.done (λ x b q k. search (rules, tests)) in
    rw (take_rest bs c.count-blanks.result, n, ← blank_run c.args.line.at bs)
