use Rattle.session.proofs.Laws.{opened_fresh, reached_fresh}
use Rattle.session.proofs.session.Session.open_under.Goals as goal

pub invariant_of-result : goal.invariant_of-result
invariant_of-result g c =
    let fresh = opened_fresh c.new.result c.args.book c.args.picker c.args.shelf c.args.forget c.args.holds c.requires.opens c.requires.held c.new.ensures.kept c.new.ensures.state in
    record { reached = ∣ reached_fresh _ _ fresh ∣₁ }
