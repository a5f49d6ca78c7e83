-- Codes and rows of codes: 0 open (or not named), 1 in, 2 out.
use Rattle.std.specs.Prelude.{ℕ, Bool, if◌then◌else◌, ◌&&◌, List, length, Some, None, codes, Option, ◌==◌, nat_le}
use Rattle.std.specs.List.{list_all}
use Rattle.parts.specs.declared.side.Side.{Side}
use Rattle.parts.specs.declared.side.Side.TheVariants.{In, Out}

-- a side's code
abbrev pub code_of : Side → ℕ
code_of In = 1
code_of Out = 2

-- a side is printed as a word
abbrev pub side_text : Side → List ℕ
side_text In = codes "in"
side_text Out = codes "out"

-- the side that a code stands for
abbrev pub side_of : ℕ → Option Side
side_of c = if c == 1 then Some In else (if c == 2 then Some Out else None)

-- each is 0, 1 or 2
abbrev pub all_codes : List ℕ → Bool
all_codes cs = list_all (λ c. nat_le c 2) cs

-- a row of n codes
abbrev pub is_row : ℕ → List ℕ → Bool
is_row n cs = length cs == n && all_codes cs
