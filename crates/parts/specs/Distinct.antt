-- Lists of marks that name parts from 1 to n, and none twice.
use Rattle.std.specs.Prelude.{ℕ, Bool, true, not, ◌&&◌, List, [], ◌∷◌, ◌==◌, nat_le}
use Rattle.std.specs.List.{list_any, filter}
use Rattle.parts.specs.declared.limits.TheConstants.{MOST_PARTS}
use Rattle.parts.specs.declared.mark.Mark.{Mark}

-- whether marks name a part
abbrev pub names : List Mark → ℕ → Bool
names ms p = list_any (λ m. m.part == p) ms

-- a part from 1 to n
abbrev pub is_part : ℕ → ℕ → Bool
is_part n p = nat_le 1 p && nat_le p n

-- each part is from 1 to n, and none is named twice
abbrev pub is_distinct : ℕ → List Mark → Bool
is_distinct n [] = true
is_distinct n (m ∷ ms) = is_part n m.part && (not (names ms m.part) && is_distinct n ms)

-- whether a mark may be held beside others: its part is from 1 to 120, and not held
abbrev pub can_hold : List Mark → Mark → Bool
can_hold hs m = is_part MOST_PARTS m.part && not (names hs m.part)

-- the marks of other parts
abbrev pub released : ℕ → List Mark → List Mark
released p hs = filter (λ h. not (h.part == p)) hs
