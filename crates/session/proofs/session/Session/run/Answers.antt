use Rattle.session.proofs.Laws.{after_call, assured_after, assured_at, promised_after, spent_below}
use Rattle.session.proofs.session.Session.run.Goals as goal

pub invariant_of-self : goal.invariant_of-self
invariant_of-self g c = record { reached = after_call c.args.self.now.search c.run.new.self _ c.run.ensures.kept c.run.ensures.after c.args.self.now.reached }

pub returns-clause-assured : goal.returns-clause-assured
returns-clause-assured g c = assured_after c.args.self.now.search c.run.new.self _ c.run.ensures.kept c.run.ensures.after c.args.self.now.reached

pub returns-clause-law : goal.returns-clause-law
returns-clause-law g c = promised_after _ _ _ _ c.run.ensures.after

pub returns-clause-spent : goal.returns-clause-spent
returns-clause-spent g c =
    rw c.run.ensures.answer
    (spent_below _ _ _ _ c.run.ensures.after (assured_at c.args.self.now.search c.run.new.self _ c.run.ensures.kept c.run.ensures.after c.args.self.now.reached))
