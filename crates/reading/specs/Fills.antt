-- How the second pass speaks of the tables that it fills.
use Rattle.std.specs.Prelude.{◌≡◌, ℕ, ◌+◌, ◌≤◌, if◌then◌else◌, List, [], ◌∷◌, ◌++◌, length, take, drop, ℤ, Some, None, Ok, Option, ◌==◌, unsigned_abs}
use Rattle.text.specs.Numbers.{signed}
use Rattle.text.specs.Pieces.{Piece}
use Rattle.book.specs.Meaning.{Rule}
use Rattle.grammar.specs.declared.Room.{Room}
use Rattle.grammar.specs.Reading.{rules_of}
use Rattle.reading.specs.declared.head.Head.{Head}
use Rattle.reading.specs.Counted.{lines_left, text_end}

-- a table with these entries in its front, and the others as before
abbrev pub with_front : {X : Type 0} → List X → List X → List X
with_front all before = all ++ drop (length all) before

-- `all` goes into the front of a table that was `before`:
-- k entries of it are written, and `left` is to come
pub record Front {X : Type 0} (before all left table : List X) (k : ℕ) : Type 0 where
  pub long : length table ≡ length before
  pub room : k + length left ≤ length before
  pub front : take k table ++ left ≡ all
  pub rest : drop k table ≡ drop k before

-- the numbers of a rule line's fields up to its 0
abbrev pub stored_after : Option ℤ → List ℤ → List ℤ
stored_after None zs = []
stored_after (Some z) zs = if unsigned_abs z == 0 then [] else (z ∷ zs)

abbrev pub stored : List Piece → List ℤ
stored [] = []
stored (f ∷ fs) = stored_after (signed f.bytes) (stored fs)

-- the lines after the head read as these rules, where the tables have so many entries
abbrev pub ReadsOn : Head → ℕ → ℕ → List Rule → Type 0
ReadsOn h marks ends rs =
    let room : Room = record { n = h.size.n; marks = marks; ends = ends } in
    rules_of room (text_end h.rules) h.size.m 0 0 (lines_left h.rules) ≡ Ok rs
