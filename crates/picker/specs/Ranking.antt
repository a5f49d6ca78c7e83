-- The picker of the first open mark of a ranked list.
use Rattle.std.specs.Prelude.{ℕ, ◌-◌, Bool, ◌&&◌, List, length, Option, ◌==◌, slice_index_or, count_by}
use Rattle.std.specs.List.{list_all, range_with_len, find}
use Rattle.std.specs.Option.{unwrap_or}
use Rattle.parts.specs.declared.mark.Mark.{Mark}
use Rattle.parts.specs.declared.side.Side.TheVariants.{Out}
use Rattle.parts.specs.Rows.{Row}
use Rattle.picker.specs.Meaning.{Picks, is_size}

-- how many marks name a part
abbrev pub times : List Mark → ℕ → ℕ
times ms part = count_by (λ m. m.part == part) ms

-- each part from 1 to n is named once
abbrev pub each_once : ℕ → List Mark → Bool
each_once n ms = list_all (λ part. times ms part == 1) (range_with_len 1 n)

-- a ranked list: 1 to 120 marks that name each part up to their number once
abbrev pub is_ranking : List Mark → Bool
is_ranking ms = is_size (length ms) && each_once (length ms) ms

-- whether a part is open in a row
abbrev pub is_open : Row → ℕ → Bool
is_open row part = slice_index_or row (part - 1) 1 == 0

-- the first mark whose part is open
abbrev pub first_open : Row → List Mark → Option Mark
first_open row ms = find (λ m. is_open row m.part) ms

-- where the part of no mark is open there is no answer, and any mark does
abbrev pub ranked_picks : List Mark → Picks
ranked_picks ms = record {
  n = length ms;
  choose = λ row. unwrap_or (first_open row ms) (record { part = 0; side = Out });
}
