use Rattle.search.proofs.Promises.{nothing_is_hidden}
use Rattle.search.proofs.search_stands.Goals as goal

pub returns-clause-hidden : goal.returns-clause-hidden
returns-clause-hidden c = nothing_is_hidden
