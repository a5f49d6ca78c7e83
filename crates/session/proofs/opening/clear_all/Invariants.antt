use Rattle.std.proofs.Common.{◌≡◌, ◌++◌, drop, replicate, None}
use Rattle.session.proofs.opening.clear_all.Given as goal

-- the first places are empty
abbrev pub invariant-loop-before : goal.invariant-loop-before
invariant-loop-before g l =
    let s = g.S.Shelf.meaning l.initial.shelf in
    g.S.Shelf.meaning l.shelf ≡ record s { rows = replicate l.before None ++ drop l.before s.rows }
