use Rattle.std.proofs.Common.{◌≡◌}
use Rattle.std.specs.Option.{option_and_then}
use Rattle.parts.specs.Lists.{at_place}
use Rattle.parts.specs.Rows.{row_marks}
use Rattle.shelf.specs.Meaning.{row_at}
use Rattle.shelf.proofs.Walks.{left_from}
use Rattle.shelf.proofs.Shelf.mark.Given as goal

-- so many marks are left to pass from the part on
abbrev pub invariant-loop-part : goal.invariant-loop-part
invariant-loop-part g l =
    option_and_then (λ row. at_place (left_from l.part row) l.left) (row_at (g.Self.Shelf.meaning l.self) l.place)
    ≡ option_and_then (λ row. at_place (row_marks row) l.k) (row_at (g.Self.Shelf.meaning l.self) l.place)
