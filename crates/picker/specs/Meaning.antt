-- What a picker means: n parts, and for each row with an open part the mark to settle next
-- (a branching heuristic).
use Rattle.std.specs.Prelude.{◌≡◌, ℕ, ◌-◌, ◌≤◌, Bool, IsTrue, if◌then◌else◌, ◌&&◌, Some, None, Option, ◌==◌, nat_le, slice_index_or}
use Rattle.std.specs.List.{list_any}
use Rattle.parts.specs.declared.limits.TheConstants.{MOST_PARTS}
use Rattle.parts.specs.declared.mark.Mark.{Mark}
use Rattle.parts.specs.Codes.{is_row}
use Rattle.parts.specs.Rows.{Row}

pub record Picks : Type 0 where
  pub n : ℕ
  pub choose : Row → Mark

-- whether some part is open
abbrev pub some_open : Row → Bool
some_open cs = list_any (λ c. c == 0) cs

-- the rows that a picker of n parts has an answer for
abbrev pub is_answered : ℕ → Row → Bool
is_answered n row = is_row n row && some_open row

-- a picker's answer
abbrev pub picked : Picks → Row → Option Mark
picked p row = if is_answered p.n row then Some (p.choose row) else None

-- how many parts a picker may have
abbrev pub is_size : ℕ → Bool
is_size n = nat_le 1 n && nat_le n MOST_PARTS

-- a part from 1 to n that is open in the row
pub record Free (n : ℕ) (row : Row) (part : ℕ) : Type 0 where
  pub first : 1 ≤ part
  pub last : part ≤ n
  pub free : slice_index_or row (part - 1) 1 ≡ 0

-- what every picker's meaning keeps
pub record Sound (p : Picks) : Type 0 where
  pub some : 1 ≤ p.n
  pub few : p.n ≤ MOST_PARTS
  pub frees : (row : Row) → IsTrue (is_answered p.n row) → Free p.n row (p.choose row).part
