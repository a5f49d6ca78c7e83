-- Full choices (total assignments): which rules one meets, which holds one keeps, and the choice
-- that a row shows.
use Rattle.std.specs.Prelude.{◌≡◌, ℕ, suc, Bool, IsTrue, List, [], ◌∷◌, Some, None, Option}
use Rattle.std.specs.List.{All, Any, Contains, list_all, list_any, range_with_len}
use Rattle.parts.specs.Codes.{code_of, is_row}
use Rattle.parts.specs.declared.mark.Mark.{Mark}
use Rattle.parts.specs.declared.side.Side.{Side}
use Rattle.parts.specs.declared.side.Side.TheVariants.{Out}
use Rattle.parts.specs.Rows.{Row, row_marks, side_in, same_side, is_full}
use Rattle.book.specs.Meaning.{Rule, RuleBook}

-- a full choice puts every part in or out
abbrev pub Choice : Type 0
Choice = ℕ → Side

-- it puts a mark's part on the mark's side
abbrev pub Takes : Choice → Mark → Type 0
Takes f m = f m.part ≡ m.side

-- it meets a rule when at least one mark is true
abbrev pub Meets : Choice → Rule → Type 0
Meets f r = Any (Takes f) r

-- it obeys rules when it meets each
abbrev pub Obeys : List Rule → Choice → Type 0
Obeys rs f = All (Meets f) rs

-- it keeps holds when it puts each on its side
abbrev pub Keeps : List Mark → Choice → Type 0
Keeps hs f = All (Takes f) hs

-- the same as tests
abbrev pub takes : Choice → Mark → Bool
takes f m = same_side (f m.part) m.side

abbrev pub meets : Choice → Rule → Bool
meets f r = list_any (takes f) r

abbrev pub obeys : List Rule → Choice → Bool
obeys rs f = list_all (meets f) rs

abbrev pub keeps : List Mark → Choice → Bool
keeps hs f = list_all (takes f) hs

-- the choice that a row of codes shows; a part that the row leaves open is out
abbrev pub side_or_out : Option Side → Side
side_or_out None = Out
side_or_out (Some s) = s

abbrev pub shown : Row → Choice
shown row p = side_or_out (side_in row p)

-- the codes that a choice gives to k parts from one on, and its row of n parts
abbrev pub codes_of : Choice → List ℕ → Row
codes_of f [] = []
codes_of f (p ∷ ps) = code_of (f p) ∷ codes_of f ps

abbrev pub row_of : ℕ → Choice → Row
row_of n f = codes_of f (range_with_len 1 n)

-- A row shows a choice that fits: it puts every part in or out, meets every rule and keeps every
-- hold.
pub record ShowsFit (b : RuleBook) (hs : List Mark) (row : Row) : Type 0 where
  pub long : IsTrue (is_row b.n row)
  pub full : IsTrue (is_full row)
  pub obeys : Obeys b.rules (shown row)
  pub keeps : Keeps hs (shown row)

-- A row names holds that leave no choice: each is one of the holds, and no full choice that meets
-- every rule keeps them all.
pub record NamesClash (b : RuleBook) (hs : List Mark) (row : Row) : Type 0 where
  pub long : IsTrue (is_row b.n row)
  pub held : All (Contains hs) (row_marks row)
  pub none : (f : Choice) → Obeys b.rules f → Keeps (row_marks row) f → ⊥
