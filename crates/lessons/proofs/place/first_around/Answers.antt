use Rattle.std.proofs.Common.{◌+◌, ◌-◌, sym, ap, ◌∙◌, rules, tests, arith}
use Rattle.std.specs.List.{range_with_len}
use Rattle.std.proofs.lemmas.Iterator.Adapters.{option_map_id}
use Rattle.std.proofs.lemmas.Iterator.Consumers.{YieldsList-from_chain, YieldsList-at}
use Rattle.std.proofs.lemmas.Iterator.Search.{find_from_yields_List}
use Rattle.search.specs.Machine.{around}
use Rattle.lessons.proofs.Lessons.{YieldsList-from_inclusive}
use Rattle.lessons.proofs.place.first_around.Goals as goal

pub returns : goal.returns
unfolding around
returns g c = λ test says.
    let ahead = YieldsList-at c.chain.ensures.first (YieldsList-from_inclusive (range_with_len (c.args.last + 1) (c.args.places - c.args.last)) c.new.ensures (grind arith)) in
    let behind = YieldsList-at c.chain.ensures.second (YieldsList-from_inclusive (range_with_len 1 c.args.last) c.new-2.ensures (ap (range_with_len 1) (omega arith))) in
    sym (option_map_id c.find.result)
    ∙ find_from_yields_List test _ _ c.find.result c.find.ensures.ran (YieldsList-from_chain ahead behind c.chain.ensures.first_done c.chain.ensures.second_done)
    (λ x b q k. (search (rules, tests), says x b (search (rules, tests))))
