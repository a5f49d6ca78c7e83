-- A shelf as a grid of codes: for each place an entry that is 0 where it is empty,
-- and then n codes.
use Rattle.std.specs.Prelude.{ℕ, Bool, List, ◌∷◌, drop, Option}
use Rattle.parts.specs.Rows.{Row}
use Rattle.shelf.specs.Meaning.{Shelved, sound_place}
use Rattle.shelf.specs.Table.{read_block, read_by}

-- the row in a place's block
abbrev pub grid_row : List ℕ → Row
grid_row block = drop 1 block

-- the entries for a row
abbrev pub grid_block : Row → List ℕ
grid_block row = 1 ∷ row

abbrev pub read_codes : List ℕ → Option Row
read_codes block = read_block grid_row block

-- whether a block is well formed: empty, or with a row of n codes
abbrev pub formed_codes : ℕ → List ℕ → Bool
formed_codes n block = sound_place n (read_codes block)

abbrev pub grid : ℕ → ℕ → List ℕ → Shelved
grid n places entries = read_by read_codes n places entries
