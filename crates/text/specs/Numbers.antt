-- Numbers as a text writes them.
use Rattle.std.specs.Prelude.{ℕ, zero, suc, ◌+◌, ◌-◌, ◌*◌, if◌then◌else◌, ◌||◌, List, [], ◌∷◌, length, ℤ, pos, negsuc, Some, None, Option, ◌==◌, nat_lt}
use Rattle.std.specs.Option.{option_map}

-- the digits go on from a value
abbrev pub digits_from : ℕ → List ℕ → Option ℕ
digits_from value [] = Some value
digits_from value (b ∷ bs) =
    if nat_lt b 48 || nat_lt 57 b then None else (digits_from (value * 10 + (b - 48)) bs)

-- a number is 0, or a digit 1 to 9 and up to four more digits
abbrev pub number : List ℕ → Option ℕ
number [] = None
number (b ∷ bs) =
    if b == 48 then (if length bs == 0 then (Some 0) else None)
    else (if nat_lt 4 (length bs) then None else (digits_from 0 (b ∷ bs)))

-- below 0, and never "-0"
abbrev pub negated : Option ℕ → Option ℤ
negated None = None
negated (Some zero) = None
negated (Some (suc v)) = Some (negsuc v)

-- a signed number: a number, or a minus (45) and a number above 0
abbrev pub signed : List ℕ → Option ℤ
signed [] = None
signed (b ∷ bs) = if b == 45 then (negated (number bs)) else (option_map pos (number (b ∷ bs)))
