-- One value over the front of a list.
use Rattle.std.proofs.Common.{◌≡◌, ℕ, ◌+◌, ◌<◌, List, [], ◌∷◌, ◌++◌, length, drop, set, replicate, arith, get_or}
use Rattle.std.proofs.lemmas.List.{drop_more, set_at, length-replicate, replicate_more, append_assoc}

-- one entry more
pub fill_more : {X : Type 0} (xs : List X) (i : ℕ) (v : X) → i < length xs → set (replicate i v ++ drop i xs) i v ≡ replicate (i + 1) v ++ drop (i + 1) xs
fill_more xs i v l = grind (arith, drop_more xs i v, set_at (replicate i v) (get_or xs i v) (drop (i + 1) xs) v i, length-replicate i v, append_assoc (replicate i v) (v ∷ []), replicate_more i v)
