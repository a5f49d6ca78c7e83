use Rattle.std.proofs.Common.{rules, tests, arith}
use Rattle.std.proofs.lemmas.Bool.Decides.{nat_tests}
use Rattle.std.proofs.lemmas.Iterator.Adapters.{YieldsList-from_rev_slice}
use Rattle.std.proofs.lemmas.Iterator.Search.{any_from_yields_List}
use Rattle.search.specs.declared.entry.Entry.{Entry}
use Rattle.search.specs.Machine.{by_place, needed}
use Rattle.trail.proofs.Trail.needed.Goals as goal

pub returns : goal.returns
unfolding needed
returns c =
    let by = λ (e : Entry). by_place c.args.place e.kind in
    let any = any_from_yields_List by _ _ c.any.result c.any.ensures.ran (YieldsList-from_rev_slice c.self.inside.entries.items cc) (λ x b q k. search (rules, tests, nat_tests)) in
    grind (arith, any, c.self.view_is)
