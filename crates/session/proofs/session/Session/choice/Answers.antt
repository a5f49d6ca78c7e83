use Rattle.std.proofs.Common.{length}
use Rattle.session.specs.View.{bench_of, state_of}
use Rattle.session.proofs.Laws.{assured, choice_shows, shown_by_choice}
use Rattle.session.proofs.session.Session.choice.Goals as goal

pub returns-clause-shows : goal.returns-clause-shows
returns-clause-shows g c =
    let x = c.args.self.now in
    let len = length c.args.row.now in
    let shown = choice_shows (bench_of x) (state_of x) len c.args.row.now (assured _ _ x.reached) in
    rw (c.show.ensures.answer, c.show.ensures.after, c.fitting_row.ensures.value, c.n.ensures, shown_by_choice (bench_of x) (state_of x) len) shown
