use Rattle.std.proofs.Common.{◌≡◌, ◌+◌, ◌<◌, true, length, is_some}
use Rattle.std.specs.Option.{option_map}
use Rattle.parts.specs.Rows.{row_marks}
use Rattle.shelf.specs.Meaning.{row_at}
use Rattle.shelf.proofs.Walks.{left_from}
use Rattle.shelf.proofs.Shelf.marks.Given as goal

-- so many marks were counted below the part
abbrev pub invariant-loop-part : goal.invariant-loop-part
invariant-loop-part g l =
    (option_map (λ row. l.marks + length (left_from l.part row)) (row_at (g.Self.Shelf.meaning l.self) l.place)
    ≡ option_map (λ row. length (row_marks row)) (row_at (g.Self.Shelf.meaning l.self) l.place))
    × (l.marks < l.part)
    × (1 < l.part → is_some (row_at (g.Self.Shelf.meaning l.self) l.place) ≡ true)
