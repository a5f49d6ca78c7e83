use Rattle.std.proofs.Common.{[], refl, arith}
use Rattle.session.proofs.Laws.{assured, opened_bare, opened_fresh, reached_fresh}
use Rattle.session.proofs.session.Session.open.Goals as goal

pub invariant_of-result : goal.invariant_of-result
invariant_of-result g c =
    let fresh = opened_fresh c.new.result c.args.book c.args.picker c.args.shelf c.args.forget [] (grind arith) refl c.new.ensures.kept (grind (arith, c.empty.ensures)) in
    record { reached = ∣ reached_fresh _ _ fresh ∣₁ }

pub returns-in-Ok-clause-opened : goal.returns-in-Ok-clause-opened
returns-in-Ok-clause-opened g c =
    let fresh = opened_fresh c.new.result c.args.book c.args.picker c.args.shelf c.args.forget [] (grind arith) refl c.new.ensures.kept (grind (arith, c.empty.ensures)) in
    (grind arith, c.new.ensures.kept.0, c.new.ensures.kept.1, c.new.ensures.kept.2, grind (arith, c.empty.ensures, opened_bare), fresh)

pub returns-in-Ok-clause-assured : goal.returns-in-Ok-clause-assured
returns-in-Ok-clause-assured g c =
    let fresh = opened_fresh c.new.result c.args.book c.args.picker c.args.shelf c.args.forget [] (grind arith) refl c.new.ensures.kept (grind (arith, c.empty.ensures)) in
    assured _ _ ∣ reached_fresh _ _ fresh ∣₁
