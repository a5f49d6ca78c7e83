-- How the readers speak of a head.
use Rattle.std.specs.Prelude.{◌≡◌, ℕ, List, [], ◌∷◌, length, Err}
use Rattle.parts.specs.declared.fault.Fault.{Fault}
use Rattle.parts.specs.declared.refusal.Refusal.TheVariants.{NoHead}
use Rattle.text.specs.Pieces.{Piece, lines}
use Rattle.text.specs.Views.{piece_of}
use Rattle.grammar.specs.declared.Room.{Room}
use Rattle.grammar.specs.Reading.{fault_at, head_of, from_head, book_of, rules_of}
use Rattle.reading.specs.declared.head.Head.{Head}
use Rattle.reading.specs.declared.head.HeadFields.{HeadFields}
use Rattle.reading.specs.Counted.{lines_left, text_end}

-- the fields are those of no head, wherever their line stands
abbrev pub IsNoHead : List Piece → Type 0
IsNoHead fields = (from : ℕ) → head_of from fields ≡ Err (fault_at NoHead from 0)

-- the fields are just these four
abbrev pub FourFields : List Piece → HeadFields → Type 0
FourFields fields h = fields ≡ piece_of h.p ∷ piece_of h.cnf ∷ piece_of h.n ∷ piece_of h.m ∷ []

-- the text reads as the head's n and what the lines after it read as, whatever the tables
abbrev pub Begins : List ℕ → Head → Type 0
Begins text h =
    (marks ends : ℕ) →
    let room : Room = record { n = h.size.n; marks = marks; ends = ends } in
    from_head marks ends (length text) (lines 0 text)
    ≡ book_of h.size.n (rules_of room (text_end h.rules) h.size.m 0 0 (lines_left h.rules))

-- the text has no head that counts
abbrev pub Fails : List ℕ → Fault → Type 0
Fails text e = (marks ends : ℕ) → from_head marks ends (length text) (lines 0 text) ≡ Err e
