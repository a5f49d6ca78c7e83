-- A shelf as lists of marks: for each place an entry that is 0 where it is empty,
-- else 1 more than how many marks its row names, and then these marks as numbers, by rising part.
use Rattle.std.specs.Prelude.{ℕ, zero, suc, ◌+◌, ◌-◌, ◌*◌, ◌/◌, ◌%◌, Bool, true, if◌then◌else◌, ◌&&◌, List, [], ◌∷◌, map, length, take, drop, Option, ◌==◌, nat_le, slice_index}
use Rattle.std.specs.List.{find}
use Rattle.std.specs.Option.{option_map, unwrap_or}
use Rattle.parts.specs.Codes.{code_of}
use Rattle.parts.specs.declared.mark.Mark.{Mark}
use Rattle.parts.specs.declared.side.Side.{Side}
use Rattle.parts.specs.declared.side.Side.TheVariants.{In, Out}
use Rattle.parts.specs.Rows.{Row, row_marks}
use Rattle.shelf.specs.Meaning.{Shelved}
use Rattle.shelf.specs.Table.{read_block, read_by}

-- a mark as a number: twice its part, and 1 more where it is out
abbrev pub entry_on : Side → ℕ → ℕ
entry_on In part = part * 2
entry_on Out part = part * 2 + 1

abbrev pub entry_of : Mark → ℕ
entry_of m = entry_on m.side m.part

abbrev pub mark_of_entry : ℕ → Mark
mark_of_entry entry = record { part = entry / 2; side = if entry % 2 == 0 then In else Out }

-- the marks in a place's entries
abbrev pub block_marks : List ℕ → List Mark
block_marks block = map mark_of_entry (take (slice_index block 0 - 1) (drop 1 block))

-- parts that rise from a part, to n at most
abbrev pub rises : ℕ → ℕ → List Mark → Bool
rises part n [] = true
rises part n (m ∷ ms) = (nat_le part m.part && nat_le m.part n) && rises (suc m.part) n ms

-- whether a place's entries are well formed
abbrev pub formed_marks : ℕ → List ℕ → Bool
formed_marks n block = nat_le (slice_index block 0) (n + 1) && rises 1 n (block_marks block)

-- the code that marks give a part: that of the mark that names it, 0 where none does
abbrev pub code_in : List Mark → ℕ → ℕ
code_in ms part = unwrap_or (option_map (λ m. code_of m.side) (find (λ m. m.part == part) ms)) 0

-- the codes that they give to so many parts from one on
abbrev pub codes_by : ℕ → ℕ → List Mark → Row
codes_by part zero ms = []
codes_by part (suc count) ms = code_in ms part ∷ codes_by (suc part) count ms

-- the row in a place's entries, and the entries for a row
abbrev pub list_row : ℕ → List ℕ → Row
list_row n block = codes_by 1 n (block_marks block)

abbrev pub list_block : Row → List ℕ
list_block row = suc (length (row_marks row)) ∷ map entry_of (row_marks row)

abbrev pub read_marks : ℕ → List ℕ → Option Row
read_marks n block = read_block (list_row n) block

abbrev pub listed : ℕ → ℕ → List ℕ → Shelved
listed n places entries = read_by (read_marks n) n places entries
