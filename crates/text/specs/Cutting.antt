-- Bytes cut at the first of some kind.
use Rattle.std.specs.Prelude.{ℕ, ◌+◌, List, take, drop, position, Option, ◌==◌}
use Rattle.std.specs.Option.{option_map}

-- the bytes before the first of some kind, and those after it
abbrev pub cut_at : ℕ → List ℕ → Option (List ℕ × List ℕ)
cut_at c bs = option_map (λ i. (take i bs, drop (i + 1) bs)) (position (λ b. b == c) bs)
