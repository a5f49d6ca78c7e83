use Rattle.std.proofs.Common.{length}
use Rattle.session.specs.View.{bench_of, state_of}
use Rattle.session.proofs.Laws.{assured, named_shows, shown_by_named}
use Rattle.session.proofs.session.Session.named.Goals as goal

pub returns-clause-names : goal.returns-clause-names
returns-clause-names g c =
    let x = c.args.self.now in
    let len = length c.args.row.now in
    let shown = named_shows (bench_of x) (state_of x) len c.args.row.now (assured _ _ x.reached) in
    rw (c.show.ensures.answer, c.show.ensures.after, c.clashing_row.ensures.value, c.n.ensures, shown_by_named (bench_of x) (state_of x) len) shown
