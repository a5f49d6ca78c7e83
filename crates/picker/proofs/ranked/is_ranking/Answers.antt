use Rattle.std.proofs.Common.{◌+◌, length, refl, arith, rules, tests}
use Rattle.std.specs.Prelude.{◌==◌}
use Rattle.std.proofs.lemmas.Iterator.{YieldsList-from_range}
use Rattle.std.proofs.lemmas.Iterator.Search.{all_from_yields_List}
use Rattle.std.proofs.lemmas.Bool.Decides.{nat_tests}
use Rattle.picker.specs.Ranking.{times}
use Rattle.picker.proofs.ranked.is_ranking.Goals as goal

pub returns-then-n-le-MOST_PARTS : goal.returns-then-n-le-MOST_PARTS
returns-then-n-le-MOST_PARTS c =
    let n = length c.args.list.now in
    let once = all_from_yields_List (λ part. times c.args.list.now part == 1) _ _ c.all.result c.all.ensures.ran (YieldsList-from_range 1 (n + 1) n refl (omega arith)) (λ x b q k. search (rules, tests)) in
    grind (arith, nat_tests)
