use Rattle.search.specs.Trail.{row as settled_row}
use Rattle.lessons.proofs.Lessons.{SweptTo}
use Rattle.lessons.proofs.forget.sweep.Given as goal

abbrev pub invariant-loop-before : goal.invariant-loop-before
invariant-loop-before g l =
    SweptTo l.forget (settled_row l.trail.n l.trail.entries) l.trail.entries (g.S.Shelf.meaning l.initial.shelf) l.before (g.S.Shelf.meaning l.shelf)
