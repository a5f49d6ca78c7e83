-- A book of bays: in each bay exactly one part is in
-- (an at-least-one clause, and an at-most-one clause for each pair).
use Rattle.std.specs.Prelude.{ℕ, zero, suc, ◌+◌, Bool, ◌&&◌, List, [], ◌∷◌, ◌++◌, map, length, nat_le, sum, sum_by}
use Rattle.std.specs.List.{list_all, range_with_len}
use Rattle.parts.specs.declared.limits.TheConstants.{MOST_PARTS, MOST_WIDTH}
use Rattle.parts.specs.declared.mark.Mark.{Mark}
use Rattle.parts.specs.declared.side.Side.TheVariants.{In, Out}
use Rattle.book.specs.Meaning.{Rule, RuleBook}

abbrev pub in_mark : ℕ → Mark
in_mark p = record { part = p; side = In }

abbrev pub out_mark : ℕ → Mark
out_mark p = record { part = p; side = Out }

-- some part of the bay is in: its parts, from one on, rising
abbrev pub some_in : ℕ → ℕ → Rule
some_in from width = map in_mark (range_with_len from width)

-- one of two parts is out
abbrev pub not_both : ℕ → ℕ → Rule
not_both i j = out_mark i ∷ out_mark j ∷ []

-- the pairs of a bay's parts, by the lower part, then by the higher
abbrev pub pairs : ℕ → ℕ → List Rule
pairs from zero = []
pairs from (suc w) = map (not_both from) (range_with_len (from + 1) w) ++ pairs (from + 1) w

abbrev pub bay_rules : ℕ → ℕ → List Rule
bay_rules from width = some_in from width ∷ pairs from width

-- the rules of bays of these widths, which take the parts in order
abbrev pub bays_rules : ℕ → List ℕ → List Rule
bays_rules from [] = []
bays_rules from (w ∷ ws) = bay_rules from w ++ bays_rules (from + w) ws

-- a book over as many parts as the bays have together
abbrev pub bay_book : List ℕ → RuleBook
bay_book ws = record { n = sum ws; rules = bays_rules 1 ws }

-- how many rules a bay has, and all bays together
abbrev pub pair_count : ℕ → ℕ
pair_count zero = 0
pair_count (suc w) = w + pair_count w

abbrev pub bay_count : ℕ → ℕ
bay_count w = suc (pair_count w)

abbrev pub rule_count : List ℕ → ℕ
rule_count ws = sum_by bay_count ws

-- each width is from 1 to 20
abbrev pub widths_in_range : List ℕ → Bool
widths_in_range ws = list_all (λ w. nat_le 1 w && nat_le w MOST_WIDTH) ws

-- whether there is a book of bays of these widths:
-- some bays, of 1 to 20 parts each, and of at most 120 together
abbrev pub has_bay_book : List ℕ → Bool
has_bay_book ws = nat_le 1 (length ws) && (widths_in_range ws && nat_le (sum ws) MOST_PARTS)
