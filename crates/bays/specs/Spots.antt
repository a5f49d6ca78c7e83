-- Where a rule stands: its bay, and which of the bay's rules it is.
use Rattle.std.specs.Prelude.{◌≡◌, ℕ, ◌<◌, List, Some, None, Option, MatchOption}
use Rattle.std.specs.List.{slice_get}
use Rattle.parts.specs.Lists.{at_place}
use Rattle.book.specs.Meaning.{Rule}
use Rattle.bays.specs.Meaning.{some_in, pairs, bays_rules, pair_count}
use Rattle.bays.specs.declared.spots.Spot.{Spot}
use Rattle.bays.specs.declared.spots.Spot.TheVariants.{SomeIn, NotBoth}

-- the rule that stands at a spot
abbrev pub rule_of_spot : Spot → Option Rule
rule_of_spot (SomeIn bay) = Some (some_in bay.from bay.width)
rule_of_spot (NotBoth bay pair) = slice_get (pairs bay.from bay.width) pair

-- a spot's pair is one of its bay's
abbrev pub InBayOf : Spot → Type 0
InBayOf (SomeIn bay) = Unit {0}
InBayOf (NotBoth bay pair) = pair < pair_count bay.width

-- the rule, counted from 1, stands at this spot
pub record IsSpot (ws : List ℕ) (rule : ℕ) (s : Spot) : Type 0 where
  pub inside : InBayOf s
  pub is : at_place (bays_rules 1 ws) rule ≡ rule_of_spot s

-- a rule's spot, or nothing where there is no such rule
abbrev pub Spotted : List ℕ → ℕ → Option Spot → Type 0
Spotted ws rule r = MatchOption r (at_place (bays_rules 1 ws) rule ≡ None) (IsSpot ws rule)
