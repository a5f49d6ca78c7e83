use Rattle.session.proofs.Laws.{after_call, assured_after, promised_after}
use Rattle.session.proofs.session.Session.hold.Goals as goal

pub invariant_of-self : goal.invariant_of-self
invariant_of-self g c = record { reached = after_call c.args.self.now.search c.hold.new.self _ c.hold.ensures.kept c.hold.ensures.after c.args.self.now.reached }

pub returns-clause-assured : goal.returns-clause-assured
returns-clause-assured g c = assured_after c.args.self.now.search c.hold.new.self _ c.hold.ensures.kept c.hold.ensures.after c.args.self.now.reached

pub returns-clause-law : goal.returns-clause-law
returns-clause-law g c = promised_after _ _ _ _ c.hold.ensures.after
