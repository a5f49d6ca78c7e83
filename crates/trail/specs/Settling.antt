-- What a trail is seen as: n parts, and the entries that settle some of them, the newest first.
use Rattle.std.specs.Prelude.{◌≡◌, ℕ, ◌≤◌, Bool, IsTrue, ◌&&◌, List, [], ◌∷◌, map, is_none, Some, None, Option}
use Rattle.parts.specs.declared.limits.TheConstants.{MOST_PARTS}
use Rattle.parts.specs.declared.mark.Mark.{Mark}
use Rattle.parts.specs.Distinct.{is_part, is_distinct}
use Rattle.parts.specs.Rows.{Row}
use Rattle.search.specs.declared.entry.Entry.{Entry}
use Rattle.search.specs.Trail.{row as row_of, settled}

pub record Settling : Type 0 where
  pub n : ℕ
  pub entries : List Entry

abbrev pub marks_of : List Entry → List Mark
marks_of t = map (λ (e : Entry). e.mark) t

-- what every trail keeps: at most 120 parts, no part settled twice, and the row shows the entries
pub record IsTrail (n : ℕ) (entries : List Entry) (row : Row) : Type 0 where
  pub few : n ≤ MOST_PARTS
  pub apart : IsTrue (is_distinct n (marks_of entries))
  pub shows : row ≡ row_of MOST_PARTS entries

-- whether a mark may be settled: its part is from 1 to n, and open
abbrev pub can_settle : Settling → Mark → Bool
can_settle t m = is_part t.n m.part && is_none (settled t.entries m.part)

abbrev pub newest : List Entry → Option Entry
newest [] = None
newest (e ∷ t) = Some e

abbrev pub older : List Entry → List Entry
older [] = []
older (e ∷ t) = t
