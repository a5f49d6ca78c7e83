-- What the rules of bays say: exactly one part of each bay is in.
use Rattle.std.specs.Prelude.{◌≡◌, ℕ, ◌+◌, ◌<◌, ◌≤◌, List, [], ◌∷◌}
use Rattle.parts.specs.declared.side.Side.TheVariants.{In}
use Rattle.book.specs.Choices.{Choice, Obeys}
use Rattle.bays.specs.Meaning.{bay_book}

-- the part is one of the bay's
abbrev pub InBay : ℕ → ℕ → ℕ → Type 0
InBay from width p = (from ≤ p) × (p < from + width)

-- a part of the bay is in, and any two parts of the bay that are in are one part
pub record OneIn (f : Choice) (from width : ℕ) : Type 0 where
  pub one : (p : ℕ) × InBay from width p × (f p ≡ In)
  pub same : (p q : ℕ) → InBay from width p → InBay from width q → f p ≡ In → f q ≡ In → p ≡ q

-- exactly one part of each bay is in
abbrev pub OneInEach : Choice → ℕ → List ℕ → Type 0
OneInEach f from [] = Unit {0}
OneInEach f from (w ∷ ws) = OneIn f from w × OneInEach f (from + w) ws

-- a full choice obeys the rules of these bays exactly if it has exactly one part of each bay in
abbrev pub HoldOne : List ℕ → Type 0
HoldOne ws = (f : Choice)
    → (Obeys (bay_book ws).rules f → OneInEach f 1 ws)
    × (OneInEach f 1 ws → Obeys (bay_book ws).rules f)
