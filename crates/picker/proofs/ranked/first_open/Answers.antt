use Rattle.std.proofs.Common.{rules, tests}
use Rattle.std.proofs.lemmas.Iterator.{YieldsList-from_slice}
use Rattle.std.proofs.lemmas.Iterator.Adapters.{serves_from_places}
use Rattle.std.proofs.lemmas.Iterator.Search.{find_from_yields_List}
use Rattle.picker.specs.Ranking.{is_open}
use Rattle.picker.proofs.ranked.first_open.Goals as goal

pub find-requires-clause-callable : goal.find-requires-clause-callable
find-requires-clause-callable c =
    serves_from_places (YieldsList-from_slice c.args.list.now cc) (λ x q k. search rules)
    (λ x k l e. let w = c.requires k x.now l in search rules)

pub returns : goal.returns
returns c =
    let f = find_from_yields_List (λ m. is_open c.args.row.now m.part) _ _ c.find.result c.find.ensures.ran (YieldsList-from_slice c.args.list.now cc) (λ x b q k. search (rules, tests)) in
    search rules
