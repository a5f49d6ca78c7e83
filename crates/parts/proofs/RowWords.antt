-- A row without an open part has no code 0.
use Rattle.std.proofs.Common.{◌≡◌, not, eqb, List, [], ◌∷◌, refl, arith}
use Rattle.std.specs.List.{list_any}
use Rattle.parts.specs.Rows.{is_full}

pub none_open : (cs : List _) → is_full cs ≡ not (list_any (λ c. eqb c 0) cs)
none_open [] = refl
none_open (c ∷ cs) = grind (arith, none_open cs)
