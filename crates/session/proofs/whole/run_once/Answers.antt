use Rattle.std.proofs.Common.{◌≡◌, ◌∙◌, ap, arith}
use Rattle.search.specs.Machine.{Bench}
use Rattle.session.specs.Solving.{solved_row}
use Rattle.search.specs.Calls.{report}
use Rattle.session.specs.View.{bench_of, state_of}
use Rattle.session.proofs.Laws.{run_accepted}
use Rattle.session.proofs.Solves.{accepted_run, ends_truly}
use Rattle.session.proofs.whole.run_once.Goals as goal

pub returns-clause-truly : goal.returns-clause-truly
returns-clause-truly g c =
    let x = c.args.session.now in
    let k = c.args.budget in
    let kept = c.run.ensures.kept in
    let accepted = accepted_run (bench_of x) (state_of x) k c.requires.budget c.requires.fresh.0 in
    let after = c.run.ensures.after ∙ run_accepted (bench_of x) (state_of x) k accepted in
    let is : c.in-Ok.report ≡ report (state_of c.run.new.self) = grind (arith, accepted) in
    let same : bench_of c.run.new.self ≡ bench_of x = grind arith in
    let row_is = c.show_answer.ensures ∙ ap (λ (b : Bench). solved_row b.book.n (state_of c.run.new.self) c.args.row.now) same in
    rw row_is
    (ends_truly (bench_of x) (state_of x) (state_of c.run.new.self) k c.args.row.now c.in-Ok.report after c.requires.fresh.0 is (rw same at c.run.ensures.assured) c.in-Ok.ensures.spent)
