use Rattle.std.proofs.Common.{eqb, rules, tests, arith}
use Rattle.std.proofs.lemmas.Iterator.{YieldsList-from_slice, YieldsList-from_map}
use Rattle.std.proofs.lemmas.Iterator.Search.{find_from_yields_List}
use Rattle.parts.specs.declared.mark.Mark.{Mark}
use Rattle.shelf.specs.Listed.{mark_of_entry}
use Rattle.shelf.proofs.list.code_in.Goals as goal

pub returns : goal.returns
returns c =
    let found = find_from_yields_List (λ (m : Mark). eqb m.part c.args.part) _ _ c.find.result c.find.ensures.ran
    (YieldsList-from_map _ mark_of_entry (YieldsList-from_slice c.args.numbers.now cc) c.map.ensures.closure (λ x r q k. search (rules, tests))) (λ x b q k. search (rules, tests)) in
    grind arith
