use Rattle.session.proofs.Laws.{assured}
use Rattle.session.proofs.session.Session.shelf.Goals as goal

pub returns-clause-lessons : goal.returns-clause-lessons
returns-clause-lessons g c = (assured _ _ c.args.self.now.reached).lessons
