-- What is put on a page, and when there is no room for it.
use Rattle.std.specs.Prelude.{◌≡◌, ℕ, ◌+◌, ◌<◌, List, ◌++◌, length, Result, MatchResult}

-- the piece follows what stood on the page, or a page of so many bytes has no room for both
abbrev pub Puts : {E : Type 0} → ℕ → List ℕ → List ℕ → List ℕ → Result (Unit {0}) E → Type 0
Puts limit piece before after r =
    MatchResult r (λ _. after ≡ before ++ piece) (λ _. limit < length before + length piece)
