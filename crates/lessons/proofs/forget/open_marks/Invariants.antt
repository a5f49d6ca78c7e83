use Rattle.std.proofs.Common.{◌≡◌, ◌≤◌, take}
use Rattle.search.specs.Machine.{open_count}
use Rattle.search.specs.Trail.{row as settled_row}
use Rattle.lessons.proofs.Lessons.{marks_on}
use Rattle.lessons.proofs.forget.open_marks.Given as goal

abbrev pub invariant-loop-passed : goal.invariant-loop-passed
invariant-loop-passed g l =
    let ms = marks_on (g.S.Shelf.meaning l.shelf) l.place in
    let now = settled_row l.trail.n l.trail.entries in
    (l.unsettled ≡ open_count now (take l.passed ms)) × (l.unsettled ≤ l.passed)
