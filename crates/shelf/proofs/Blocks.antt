-- A table in blocks, one for each place: what stands in one, and what a change of one leaves.
use Rattle.std.proofs.Common.{◌≡◌, ℕ, zero, suc, ◌+◌, ◌-◌, ◌*◌, ◌<◌, ◌≤◌, Bool, true, false, List, [], ◌∷◌, ◌++◌, map, length, get_or, take, drop, set, replicate, Some, None, Ok, Err, Option, cond, refl, mul-le-mul_right, suc-mul, arith}
use Rattle.std.specs.Vec.{with_items}
use Rattle.std.specs.List.{slice_get, list_all}
use Rattle.std.specs.Prelude.{◌&&◌}
use Rattle.std.specs.Option.{option_map, option_and_then}
use Rattle.std.proofs.lemmas.Grind.{common_steps}
use Rattle.std.proofs.lemmas.List.Recursion.{and_at, and_set}
use Rattle.std.proofs.lemmas.Option.{gets, slice_get-map, unwrap_or-slice_get}
use Rattle.std.proofs.lemmas.Bool.Decides.{nat_tests}
use Rattle.std.proofs.lemmas.Slice.{drop-put_mid}
use Rattle.std.proofs.lemmas.List.{take-take, take-append-drop, drop-take, drop-drop, append_assoc, map-set, with_items_is, drop_at, length-replicate, get_or_past, replicate-append-replicate}
use Rattle.parts.specs.declared.refusal.Refusal.TheVariants.{ShelfOutOfRange}
use Rattle.parts.specs.Lists.{at_place}
use Rattle.parts.specs.Distinct.{is_part}
use Rattle.shelf.specs.Meaning.{is_place, row_at, code_of_place, with_place}
use Rattle.shelf.specs.declared.entry.Entry.{Ghosts}
use Rattle.shelf.specs.declared.table.TableShelf.{TableShelf}
use Rattle.shelf.specs.Table.{IsBlock, start, blocks, overwritten, read_by, empty_shelf}
use Rattle.shelf.specs.Proved.{length_rows}
use Rattle.shelf.specs.Makes.{table_meaning, table_rest}

blocks_at : {X : Type 0} (w p k : ℕ) (xs : List X) → k < p → slice_get (blocks w p xs) k ≡ Some (take w (drop (k * w) xs))
blocks_at w zero k xs h = absurd (omega arith)
blocks_at w (suc p) zero xs h = grind (arith, common_steps)
blocks_at w (suc p) (suc k) xs h = grind (arith, common_steps, suc-mul k w, blocks_at w p k (drop w xs))

-- entries that differ in one block alone
blocks_set : {X : Type 0} (w p k : ℕ) (xs ys : List X) → take (k * w) ys ≡ take (k * w) xs → drop (k * w + w) ys ≡ drop (k * w + w) xs → blocks w p ys ≡ set (blocks w p xs) k (take w (drop (k * w) ys))
blocks_set w zero k xs ys t d = refl
blocks_set w (suc p) zero xs ys t d = grind (arith, common_steps)
blocks_set w (suc p) (suc k) xs ys t d =
    grind (arith, suc-mul k w, take-take w (suc k * w) ys, take-take w (suc k * w) xs, drop-take w (k * w) ys, drop-take w (k * w) xs, drop-drop (k * w + w) w xs, drop-drop (k * w + w) w ys, drop-drop (k * w) w ys, blocks_set w p k (drop w xs) (drop w ys))

-- a place that there is, and where its block begins
module _ {X : Type 0} {g : Ghosts X} (s : TableShelf X g) (place at : ℕ) (here : (1 ≤ place) × (place ≤ s.places) × (at ≡ start s.n place)) where
  inside : (at + (s.n + 1) ≤ s.places * (s.n + 1)) × (s.places * (s.n + 1) ≤ length s.table.items)
  inside = omega (arith, s.table.ok.0, s.sized.room, suc-mul (place - 1) (s.n + 1), mul-le-mul_right {m = suc (place - 1)} {n = s.places} (s.n + 1) (omega arith))

  pub is_block : IsBlock g.formed s.n s.places s.table.items place (take (at + s.n + 1 - at) (drop at s.table.items))
  is_block =
      let k : at + s.n + 1 - at ≡ s.n + 1 = omega arith in
      let there = blocks_at (s.n + 1) s.places (place - 1) s.table.items (omega arith) in
      let kept = and_at (list_all (g.formed s.n)) (g.formed s.n) refl (λ x xs. refl) (blocks (s.n + 1) s.places s.table.items) (place - 1) [] in
      rw k (grind (arith, common_steps, gets, inside))

  -- what a change of it leaves: its block is b, and all else is as it was
  pub record Changed (b ys : List X) : Type 0 where
    pub kept : g.formed s.n b ≡ true → list_all (g.formed s.n) (blocks (s.n + 1) s.places ys) ≡ true
    pub after : (o : Option (List ℕ)) → g.row_in s.n b ≡ o → read_by (g.row_in s.n) s.n s.places ys ≡ with_place (table_meaning s) place o
    pub rest : drop (s.places * (s.n + 1)) ys ≡ table_rest s

  changed : (b ys : List X) → take at ys ≡ take at s.table.items → take (s.n + 1) (drop at ys) ≡ b → drop (at + (s.n + 1)) ys ≡ drop (at + (s.n + 1)) s.table.items → Changed b ys
  changed b ys before there behind =
      let same : blocks (s.n + 1) s.places ys ≡ set (blocks (s.n + 1) s.places s.table.items) (place - 1) b = grind (arith, blocks_set (s.n + 1) s.places (place - 1) s.table.items ys) in
      let past = s.places * (s.n + 1) - (at + (s.n + 1)) in
      record {
        kept = λ ok. rw same (and_set (list_all (g.formed s.n)) (g.formed s.n) refl (λ x xs. refl) (blocks (s.n + 1) s.places s.table.items) (place - 1) b ok s.kept);
        after = λ o e. rw (same, map-set (g.row_in s.n) (blocks (s.n + 1) s.places s.table.items) (place - 1) b, e);
        rest = grind (arith, inside, drop-drop past (at + (s.n + 1)) ys, drop-drop past (at + (s.n + 1)) s.table.items);
      }

  -- its first entry is the empty one
  pub block_emptied : (v : X) → v ≡ g.EMPTY → Changed (g.EMPTY ∷ take s.n (drop (at + 1) s.table.items)) (set s.table.items at v)
  block_emptied v e = changed _ _ (grind (arith, common_steps, inside)) (grind (arith, common_steps, inside)) (grind (arith, common_steps, inside))

  -- a row was written into its block b, through its part of the entries
  module _ (ys b : List X) (lent : ys ≡ s.table.items) (long : length b ≡ length (take (at + s.n + 1 - at) (drop at ys))) where
    pub block_written : Changed b (with_items s.table (take at ys ++ (b ++ drop (at + s.n + 1 - at) (drop at ys)))).items
    block_written =
        let k = at + s.n + 1 - at in
        let e = with_items_is s.table (take at ys ++ (b ++ drop k (drop at ys))) in
        changed b _ (grind (arith, common_steps, inside)) (grind (arith, common_steps, inside)) (grind (arith, common_steps, inside, drop-put_mid at k ys b (at + (s.n + 1))))

    pub block_overwritten : (es : List X) → b ≡ es ++ drop (length es) (take (at + s.n + 1 - at) (drop at ys)) → (with_items s.table (take at ys ++ (b ++ drop (at + s.n + 1 - at) (drop at ys)))).items ≡ overwritten s.table.items (start s.n place) es
    block_overwritten es e =
        let k = at + s.n + 1 - at in
        let l = length es in
        let i = with_items_is s.table (take at ys ++ (b ++ drop k (drop at ys))) in
        grind (arith, common_steps, inside, drop-take l (k - l) (drop at ys), drop-drop l at ys, drop-drop (k - l) (at + l) ys, take-append-drop (k - l) (drop (at + l) ys))

-- what a place has, by its block
module _ {X : Type 0} (row : List X → Option (List ℕ)) (n p : ℕ) (xs : List X) (place : ℕ) where
  pub row_read : row_at (read_by row n p xs) place ≡ option_and_then row (at_place (blocks (n + 1) p xs) place)
  row_read = grind (arith, unwrap_or-slice_get (map row (blocks (n + 1) p xs)) (place - 1) None, slice_get-map row (blocks (n + 1) p xs) (place - 1))

  pub code_read : (part : ℕ) → code_of_place (read_by row n p xs) place part ≡ cond (is_place p place && is_part n part) (Ok (option_map (λ r. get_or r (part - 1) 0) (option_and_then row (at_place (blocks (n + 1) p xs) place)))) (Err ShelfOutOfRange)
  code_read part = grind (arith, row_read, length_rows row n p xs)

-- a table of one entry alone at its front has nothing on it, and is well formed
pub fresh_empty : {X : Type 0} (row : List X → Option (List ℕ)) (v : X) (n p : ℕ) (rest : List X) → row (v ∷ replicate n v) ≡ None → read_by row n p (replicate (p * (n + 1)) v ++ rest) ≡ empty_shelf n p
fresh_empty row v n zero rest e = refl
fresh_empty row v n (suc p) rest e = grind (arith, common_steps, suc-mul p (n + 1), replicate-append-replicate (n + 1) (p * (n + 1)) v, append_assoc (replicate (n + 1) v), fresh_empty row v n p rest e)

pub fresh_formed : {X : Type 0} (formed : List X → Bool) (v : X) (n p : ℕ) (rest : List X) → formed (v ∷ replicate n v) ≡ true → list_all formed (blocks (n + 1) p (replicate (p * (n + 1)) v ++ rest)) ≡ true
fresh_formed formed v n zero rest e = refl
fresh_formed formed v n (suc p) rest e = grind (arith, common_steps, suc-mul p (n + 1), replicate-append-replicate (n + 1) (p * (n + 1)) v, append_assoc (replicate (n + 1) v), fresh_formed formed v n p rest e)

-- what a new table is
pub ruleset fresh = (fresh_formed, fresh_empty, with_items_is, drop_at, length-replicate)
