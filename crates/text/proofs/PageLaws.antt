-- The texts of a list's items, put on a page one by one.
use Rattle.std.proofs.Common.{◌≡◌, ℕ, ◌+◌, ◌<◌, List, ◌++◌, length, length-append, drop, Some, arith}
use Rattle.std.specs.List.{flat_map}
use Rattle.std.proofs.lemmas.Grind.{common_steps}
use Rattle.std.proofs.lemmas.List.{at_drop_more, append_assoc}
use Rattle.std.proofs.lemmas.Option.{gets}
use Rattle.parts.specs.Lists.{at_place}

-- the item after `before` others is x
module _ {X : Type 0} (f : X → List ℕ) (xs : List X) (before : ℕ) (x : X) (is : at_place xs (before + 1) ≡ Some x) (page all : List ℕ) (e : page ++ flat_map f (drop before xs) ≡ all) where
  begins : page ++ (f x ++ flat_map f (drop (before + 1) xs)) ≡ all
  begins = grind (arith, common_steps, gets, at_drop_more (flat_map f) xs before x)

  -- its text was put on the page
  pub put_one : (after : List ℕ) → after ≡ page ++ f x → after ++ flat_map f (drop (before + 1) xs) ≡ all
  put_one after p = grind (arith, append_assoc page (f x) (flat_map f (drop (before + 1) xs)), begins)

  -- or found no room
  pub no_room : (limit : ℕ) (old text : List ℕ) → all ≡ old ++ text → limit < length page + length (f x) → limit < length old + length text
  no_room limit old text a h = grind (arith, begins, length-append page (f x ++ flat_map f (drop (before + 1) xs)), length-append (f x) (flat_map f (drop (before + 1) xs)), length-append old text)
