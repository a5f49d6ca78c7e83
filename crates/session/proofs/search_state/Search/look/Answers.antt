use Rattle.std.proofs.Common.{◌∙◌, sym, arith}
use Rattle.session.specs.Inner.{bench_in, state_in}
use Rattle.session.proofs.Looking.{looks, looks_quiet}
use Rattle.session.proofs.search_state.Search.look.Goals as goal

pub returns-in-Broken-clause-looked : goal.returns-in-Broken-clause-looked
returns-in-Broken-clause-looked g c = let x = c.args.self.now in let l = looks (bench_in x) (state_in x) x.trail.n x.same_trail in grind (arith, l)

pub returns-in-Some-first_broken-clause-looked : goal.returns-in-Some-first_broken-clause-looked
returns-in-Some-first_broken-clause-looked g c = let x = c.args.self.now in let l = looks (bench_in x) (state_in x) x.trail.n x.same_trail in grind (arith, l)

pub returns-in-None-clause-looked : goal.returns-in-None-clause-looked
returns-in-None-clause-looked g c = let x = c.args.self.now in let l = looks (bench_in x) (state_in x) x.trail.n x.same_trail in grind (arith, l)

pub returns-in-Broken-first-clause-looked : goal.returns-in-Broken-first-clause-looked
returns-in-Broken-first-clause-looked g c = let x = c.args.self.now in let l = looks (bench_in x) (state_in x) x.trail.n x.same_trail in grind (arith, l)

pub returns-in-Pressing-first-clause-looked : goal.returns-in-Pressing-first-clause-looked
returns-in-Pressing-first-clause-looked g c = let x = c.args.self.now in let l = looks (bench_in x) (state_in x) x.trail.n x.same_trail in grind (arith, l)

pub returns-in-Quiet-first-clause-looked : goal.returns-in-Quiet-first-clause-looked
returns-in-Quiet-first-clause-looked g c =
    let x = c.args.self.now in
    let l = looks_quiet (bench_in x) (state_in x) x.trail.n x.same_trail (grind arith) (grind arith) in
    rw c.marks.ensures at c.move_by_holds.ensures.looked ∙ sym l
