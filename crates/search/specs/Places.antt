-- The place written, in words: what is promised of it above the definition `next_place`.
use Rattle.std.specs.Prelude.{◌≡◌, ℕ, ◌<◌, ◌≤◌, ◌⊎◌, length, Some, None}
use Rattle.std.specs.List.{Any}
use Rattle.parts.specs.Lists.{at_place}
use Rattle.search.specs.declared.entry.Kind.TheVariants.{Forced}
use Rattle.search.specs.declared.reason.Reason.TheVariants.{Shelf}
use Rattle.search.specs.Trail.{Trail}
use Rattle.search.specs.Machine.{Places, next_place}

-- one of the places of a shelf: they count from 1
pub record IsPlace (s : Places) (i : ℕ) : Type 0 where
  pub first : 1 ≤ i
  pub last : i ≤ length s

-- a place with no lesson
abbrev pub IsEmpty : Places → ℕ → Type 0
IsEmpty s i = at_place s i ≡ Some None

-- a place by which some part on the trail is forced
abbrev pub IsReason : Trail → ℕ → Type 0
IsReason t i = Any (λ e. e.kind ≡ Forced (Shelf i)) t

-- The way round goes up from the place after the last written to the end, and then up from 1 to the
-- last written. On it a place j is met before a place i: both come after the last written, or only
-- j does, or neither.
abbrev pub IsMetBefore : ℕ → ℕ → ℕ → Type 0
IsMetBefore last j i = ((last < j) × (j < i)) ⊎ (((last < j) × (i ≤ last)) ⊎ ((j < i) × (i ≤ last)))

-- no place of the shelf is empty
abbrev pub NoneEmpty : Places → Type 0
NoneEmpty s = (j : ℕ) → IsEmpty s j → ⊥

-- What the place written next is, where there is one:
pub record NextPlaceIs (s : Places) (last : ℕ) (t : Trail) (i : ℕ) : Type 0 where
  -- it is one of the places
  pub place : IsPlace s i
  -- if any place is empty, it is empty
  pub empty : (j : ℕ) → IsEmpty s j → IsEmpty s i
  -- and no place met before it is
  pub first_empty : (j : ℕ) → IsEmpty s j → IsMetBefore last j i → ⊥
  -- if none is empty, it is no reason on the trail
  pub no_reason : NoneEmpty s → IsReason t i → ⊥
  -- and each place met before it is one
  pub first_free : NoneEmpty s → (j : ℕ) → IsPlace s j → IsMetBefore last j i → IsReason t j

-- There is none only where
pub record NoPlaceLeft (s : Places) (t : Trail) : Type 0 where
  -- no place is empty
  pub none_empty : NoneEmpty s
  -- and each is a reason on the trail
  pub all_reasons : (j : ℕ) → IsPlace s j → IsReason t j

pub record NextPlaceOf (s : Places) (last : ℕ) (t : Trail) : Type 0 where
  pub some : (i : ℕ) → next_place s last t ≡ Some i → NextPlaceIs s last t i
  pub none : next_place s last t ≡ None → NoPlaceLeft s t

-- THE PLACE WRITTEN: for every shelf, place last written and trail
abbrev pub PlacesAreNext : Type 0
PlacesAreNext = (s : Places) (last : ℕ) (t : Trail) → last ≤ length s → NextPlaceOf s last t
