-- What a shelf over a table is seen as: its meaning, its table,
-- and the entries that it has no place for.
use Rattle.std.specs.Prelude.{ℕ, Vec, if◌then◌else◌, List, drop, slice_set, vec_items}
use Rattle.std.specs.declared.alloc.Global.{Global}
use Rattle.parts.specs.Rows.{Row}
use Rattle.shelf.specs.Meaning.{Shelved, can_write, can_clear}
use Rattle.shelf.specs.Table.{entries_of, start, overwritten, read_by}
use Rattle.shelf.specs.Grid.{grid}
use Rattle.shelf.specs.Listed.{listed}
use Rattle.shelf.specs.declared.entry.Entry.{Ghosts}
use Rattle.shelf.specs.declared.table.TableShelf.{TableShelf}

module _ {X : Type 0} {g : Ghosts X} where
  abbrev pub table_of : TableShelf X g → Vec X Global
  table_of s = s.table

  abbrev pub table_meaning : TableShelf X g → Shelved
  table_meaning s = read_by (g.row_in s.n) s.n s.places (vec_items s.table)

  abbrev pub table_rest : TableShelf X g → List X
  table_rest s = drop (entries_of s.n s.places) (vec_items s.table)

  -- its entries after a row was put at a place, and after a place was emptied;
  -- as they were where that is refused
  abbrev pub table_written : TableShelf X g → ℕ → Row → List X
  table_written s place row =
      if can_write (table_meaning s) place row
      then overwritten (vec_items s.table) (start s.n place) (g.block_of row)
      else vec_items s.table

  abbrev pub table_cleared : TableShelf X g → ℕ → List X
  table_cleared s place =
      if can_clear (table_meaning s) place
      then slice_set (vec_items s.table) (start s.n place) g.EMPTY
      else vec_items s.table

-- of a grid, whose entries are codes, and of lists, whose entries are marks
module _ {g : Ghosts ℕ} where
  abbrev pub grid_meaning : TableShelf ℕ g → Shelved
  grid_meaning s = grid s.n s.places (vec_items s.table)

  abbrev pub grid_rest : TableShelf ℕ g → List ℕ
  grid_rest s = table_rest s

  abbrev pub list_meaning : TableShelf ℕ g → Shelved
  list_meaning s = listed s.n s.places (vec_items s.table)

  abbrev pub list_rest : TableShelf ℕ g → List ℕ
  list_rest s = table_rest s
