-- The lines of a text and the fields of a line, each with the byte where it starts.
use Rattle.std.specs.Prelude.{ℕ, ◌+◌, Bool, false, if◌then◌else◌, not, ◌||◌, List, [], ◌∷◌, ◌==◌}

-- a piece of a text: its first byte, counted from 0 in the text, and its bytes
pub record Piece : Type 0 where
  pub at : ℕ
  pub bytes : List ℕ

-- the first piece with one byte more before it
abbrev pub grown : ℕ → ℕ → List Piece → List Piece
grown b at [] = record { at = at; bytes = b ∷ [] } ∷ []
grown b at (p ∷ ps) = record { at = at; bytes = b ∷ p.bytes } ∷ ps

-- Lines end in one line feed (10), which is no part of the line; the last may lack it.
-- The text's first byte is at `at`.
abbrev pub lines : ℕ → List ℕ → List Piece
lines at [] = []
lines at (b ∷ bs) =
    if b == 10 then (record { at = at; bytes = [] } ∷ lines (at + 1) bs)
    else (grown b at (lines (at + 1) bs))

-- a space or a tab separates fields
abbrev pub blank : ℕ → Bool
blank b = b == 32 || b == 9

-- whether a field goes on into these bytes
abbrev pub goes_on : List ℕ → Bool
goes_on [] = false
goes_on (b ∷ bs) = not (blank b)

-- the fields of a line whose first byte is at `at`
abbrev pub fields : ℕ → List ℕ → List Piece
fields at [] = []
fields at (b ∷ bs) =
    if blank b then (fields (at + 1) bs)
    else (if goes_on bs then (grown b at (fields (at + 1) bs))
    else (record { at = at; bytes = b ∷ [] } ∷ fields (at + 1) bs))
