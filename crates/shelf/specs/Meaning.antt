-- What a shelf means: n parts, and for each place a row of n codes or nothing
-- (a store of learned clauses).
use Rattle.std.specs.Prelude.{ℕ, zero, suc, ◌-◌, ◌≤◌, Bool, true, IsTrue, if◌then◌else◌, ◌&&◌, List, length, Some, None, Ok, Err, Option, Result, nat_le, slice_index, slice_index_or, slice_set}
use Rattle.std.specs.List.{list_all}
use Rattle.std.specs.Option.{option_map, option_and_then}
use Rattle.parts.specs.Codes.{is_row}
use Rattle.parts.specs.declared.limits.TheConstants.{MOST_PARTS, MOST_PLACES}
use Rattle.parts.specs.declared.mark.Mark.{Mark}
use Rattle.parts.specs.declared.refusal.Refusal.{Refusal}
use Rattle.parts.specs.declared.refusal.Refusal.TheVariants.{ShelfOutOfRange}
use Rattle.parts.specs.Distinct.{is_part}
use Rattle.parts.specs.Lists.{at_place}
use Rattle.parts.specs.Rows.{Row, row_marks}

pub record Shelved : Type 0 where
  pub n : ℕ
  pub rows : List (Option Row)

-- a place is empty or holds a row
abbrev pub sound_place : ℕ → Option Row → Bool
sound_place n None = true
sound_place n (Some row) = is_row n row

-- what every shelf's meaning keeps
pub record Sound (s : Shelved) : Type 0 where
  pub some : 1 ≤ s.n
  pub few : s.n ≤ MOST_PARTS
  pub enough : s.n ≤ length s.rows
  pub most : length s.rows ≤ MOST_PLACES
  pub rows_sound : IsTrue (list_all (sound_place s.n) s.rows)

-- one of so many places
abbrev pub is_place : ℕ → ℕ → Bool
is_place places place = nat_le 1 place && nat_le place places

-- the row at a place that counts from 1; nothing where it is empty, or out of range
abbrev pub row_at : Shelved → ℕ → Option Row
row_at s zero = None
row_at s (suc i) = slice_index_or s.rows i None

-- a place's code for a part, or nothing where the place is empty
abbrev pub code_of_place : Shelved → ℕ → ℕ → Result (Option ℕ) Refusal
code_of_place s place part =
    if is_place (length s.rows) place && is_part s.n part
    then Ok (option_map (λ row. slice_index row (part - 1)) (row_at s place))
    else Err ShelfOutOfRange

-- how many marks a place's row names, and one of them by rising part, counted from 1;
-- nothing where the place is empty, or its row has no such mark
abbrev pub marks_of_place : Shelved → ℕ → Result (Option ℕ) Refusal
marks_of_place s place =
    if is_place (length s.rows) place
    then Ok (option_map (λ row. length (row_marks row)) (row_at s place))
    else Err ShelfOutOfRange

abbrev pub mark_of_place : Shelved → ℕ → ℕ → Result (Option Mark) Refusal
mark_of_place s place k =
    if is_place (length s.rows) place
    then Ok (option_and_then (λ row. at_place (row_marks row) k) (row_at s place))
    else Err ShelfOutOfRange

-- whether a row may be put at a place, and whether a place may be emptied
abbrev pub can_write : Shelved → ℕ → Row → Bool
can_write s place row = is_place (length s.rows) place && is_row s.n row

abbrev pub can_clear : Shelved → ℕ → Bool
can_clear s place = is_place (length s.rows) place

-- one place changed, and no other
abbrev pub with_place : Shelved → ℕ → Option Row → Shelved
with_place s place row = record s { rows = slice_set s.rows (place - 1) row }

-- the shelf after a row was put at a place, and after a place was emptied;
-- as it was where that is refused
abbrev pub row_written : Shelved → ℕ → Row → Shelved
row_written s place row = if can_write s place row then with_place s place (Some row) else s

abbrev pub place_emptied : Shelved → ℕ → Shelved
place_emptied s place = if can_clear s place then with_place s place None else s

-- a change is done, or refused with 25
abbrev pub done_or_25 : Bool → Result (Unit {0}) Refusal
done_or_25 b = if b then Ok tt else Err ShelfOutOfRange
