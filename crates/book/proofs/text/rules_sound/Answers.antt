use Rattle.std.proofs.Common.{arith}
use Rattle.book.proofs.Spans.{rules_drop}
use Rattle.book.proofs.text.rules_sound.Goals as goal

pub returns-then-not-rule_sound : goal.returns-then-not-rule_sound
returns-then-not-rule_sound c =
    let e = rules_drop c.args.n c.loop-end.from c.args.marks.now _ _ c.loop-end-test.true in
    grind arith
