-- The picker of the lowest open part, out.
use Rattle.std.specs.Prelude.{ℕ, ◌+◌, ◌==◌}
use Rattle.std.specs.List.{position_or_len}
use Rattle.parts.specs.declared.side.Side.TheVariants.{Out}
use Rattle.parts.specs.Rows.{Row}
use Rattle.picker.specs.Meaning.{Picks}

-- the lowest open part of a row that has one
abbrev pub lowest_open : Row → ℕ
lowest_open cs = position_or_len (λ c. c == 0) cs + 1

abbrev pub lowest_picks : ℕ → Picks
lowest_picks n = record { n = n; choose = λ row. record { part = lowest_open row; side = Out } }
