use Rattle.std.proofs.Common.{eqb, rules, tests, arith}
use Rattle.std.proofs.lemmas.Iterator.Adapters.{YieldsList-from_rev_slice}
use Rattle.std.proofs.lemmas.Iterator.Search.{find_from_yields_List}
use Rattle.search.specs.declared.entry.Entry.{Entry}
use Rattle.search.specs.Trail.{reason_of}
use Rattle.trail.proofs.Trail.reason_of.Goals as goal

pub returns : goal.returns
unfolding reason_of
returns c =
    let at = λ (e : Entry). eqb e.mark.part c.args.part in
    let found = find_from_yields_List at _ _ c.find.result c.find.ensures.ran (YieldsList-from_rev_slice c.self.inside.entries.items cc) (λ x b q k. search (rules, tests)) in
    grind (arith, found, c.self.view_is)
