use Rattle.std.proofs.Common.{◌≡◌, ◌+◌, ◌-◌, ◌≤◌, false}
use Rattle.parts.specs.declared.limits.TheConstants.{MOST_STEPS}
use Rattle.search.specs.Machine.{run, stands}
use Rattle.session.specs.Inner.{bench_in, state_in, Kept}
use Rattle.session.proofs.search_state.Search.run.Given as goal

abbrev pub invariant-loop : goal.invariant-loop
invariant-loop g l =
    let b = bench_in l.initial.self in
    (run b (l.budget - l.counter) (state_in l.self) ≡ run b l.budget (state_in l.initial.self))
    × Kept l.initial.self l.self
    × (stands (state_in l.self).verdict ≡ false → l.self.steps + (l.budget - l.counter) ≤ MOST_STEPS)
