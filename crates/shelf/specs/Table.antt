-- A shelf over a table: for each place a block of n + 1 entries.
use Rattle.std.specs.Prelude.{◌≡◌, ℕ, zero, suc, ◌+◌, ◌-◌, ◌*◌, ◌≤◌, Bool, IsTrue, if◌then◌else◌, ◌&&◌, List, [], ◌∷◌, ◌++◌, map, length, take, drop, replicate, Some, None, Option, ◌==◌, nat_le, slice_index}
use Rattle.parts.specs.declared.limits.TheConstants.{MOST_PARTS, MOST_TABLE_PLACES}
use Rattle.parts.specs.Distinct.{is_part}
use Rattle.parts.specs.Lists.{at_place}
use Rattle.parts.specs.Rows.{Row}
use Rattle.shelf.specs.Meaning.{Shelved}

-- how many entries the table of a shelf has
abbrev pub entries_of : ℕ → ℕ → ℕ
entries_of n places = places * (n + 1)

-- whether a shelf may be made: 1 to 120 parts, as many places or more, at most 256,
-- and entries for all of them
abbrev pub can_make : ℕ → ℕ → ℕ → Bool
can_make n places entries =
    (is_part MOST_PARTS n && (nat_le n places && nat_le places MOST_TABLE_PLACES))
    && nat_le (entries_of n places) entries

-- the same as facts
pub record Sized (n places entries : ℕ) : Type 0 where
  pub some : 1 ≤ n
  pub few : n ≤ MOST_PARTS
  pub enough : n ≤ places
  pub most : places ≤ MOST_TABLE_PLACES
  pub room : entries_of n places ≤ entries

-- the block of each place
abbrev pub blocks : {X : Type 0} → ℕ → ℕ → List X → List (List X)
blocks width zero entries = []
blocks width (suc places) entries = take width entries ∷ blocks width places (drop width entries)

-- where a place's block begins
abbrev pub start : ℕ → ℕ → ℕ
start n place = (place - 1) * (n + 1)

-- entries with others in place of those from an index on
abbrev pub overwritten : {X : Type 0} → List X → ℕ → List X → List X
overwritten entries at others = take at entries ++ (others ++ drop (at + length others) entries)

-- how many parts a block is for
abbrev pub parts_of : {X : Type 0} → List X → ℕ
parts_of block = length block - 1

-- the block of a place that there is
pub record IsBlock {X : Type 0} (formed : ℕ → List X → Bool)
    (n places : ℕ) (entries : List X) (place : ℕ) (block : List X) : Type 0 where
  pub low : 1 ≤ place
  pub high : place ≤ places
  pub there : at_place (blocks (n + 1) places entries) place ≡ Some block
  pub long : length block ≡ n + 1
  pub kept : IsTrue (formed n block)

-- a place's row from its block of numbers: nothing where the first is 0,
-- else the row that they stand for
abbrev pub read_block : (List ℕ → Row) → List ℕ → Option Row
read_block row block = if slice_index block 0 == 0 then None else Some (row block)

abbrev pub read_by : {X : Type 0} → (List X → Option Row) → ℕ → ℕ → List X → Shelved
read_by row n places entries = record { n = n; rows = map row (blocks (n + 1) places entries) }

-- a shelf with nothing on it
abbrev pub empty_shelf : ℕ → ℕ → Shelved
empty_shelf n places = record { n = n; rows = replicate places None }
