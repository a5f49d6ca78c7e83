use Rattle.std.proofs.Common.{arith}
use Rattle.session.proofs.Steps.{picked_open}
use Rattle.session.proofs.search_state.Search.ask.Goals as goal

pub settle-requires : goal.settle-requires
settle-requires g c =
    let x = c.args.self.now in
    (c.requires, picked_open (g.P.Picker.meaning x.picker) x.trail.n x.trail.entries c.in-Some.mark (g.P.Picker.sound x.picker) (grind arith) (grind arith))
