-- How many names a sheet has, and how the row begins.
use Rattle.std.proofs.Common.{◌≡◌, ℕ, zero, suc, ◌+◌, ◌≤◌, List, [], ◌∷◌, length, take, replicate, refl, arith}
use Rattle.sheet.specs.Format.{placed, part_line}

pub placed_length : (at k : ℕ) (names : List (List ℕ)) → length (placed at k names) ≡ length names
placed_length at k [] = refl
placed_length at k (name ∷ names) = grind (arith, placed_length (at + length (part_line k name)) (k + 1) names)

-- the front of a row of one code
pub short_row : (x n m : ℕ) → n ≤ m → take n (replicate m x) ≡ replicate n x
short_row x zero m h = refl
short_row x (suc n) zero h = absurd (omega (arith, h))
short_row x (suc n) (suc m) h = grind (arith, short_row x n m)
