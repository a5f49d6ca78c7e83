use Rattle.std.proofs.Common.{◌≡◌, length}
use Rattle.search.specs.Machine.{turn}
use Rattle.turns.specs.Turning.{rule_by}
use Rattle.turns.proofs.Reasons.turn.Given as goal

abbrev pub invariant-loop-entry : goal.invariant-loop-entry
invariant-loop-entry g l =
    let at = rule_by g.B.Book.meaning g.S.Shelf.meaning l.self in
    (turn at l.row l.trail.entries ≡ turn at l.initial.row l.initial.trail.entries) × (l.trail.n ≡ l.initial.trail.n)

abbrev pub decreases-loop-entry : goal.decreases-loop-entry
decreases-loop-entry g l = length l.trail.entries
