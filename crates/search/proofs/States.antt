-- What the truth of a mark and the state of a rule, which are over the settled row, say of the trail.
use Rattle.std.proofs.Common.{◌≡◌, ℕ, ◌-◌, ◌≤◌, ◌≢◌, ◌⊎◌, [], ◌∷◌, Some, None, inr, arith}
use Rattle.parts.specs.declared.mark.Mark.{Mark}
use Rattle.parts.proofs.Among.{Among}
use Rattle.book.specs.Meaning.{Rule}
use Rattle.search.specs.Trail.{Trail, settled, row, Truth, is_true, is_false, is_open, truth, State, broken, pressing, quiet, state}
use Rattle.search.proofs.Invariant.{Failed, Ranged}
use Rattle.search.proofs.Settled.{row_at}

-- what the truth of a mark of n parts says
abbrev pub Shows : Trail → Mark → Truth → Type 0
Shows t m is_true = settled t m.part ≡ Some m.side
Shows t m is_false = Failed t m
Shows t m is_open = settled t m.part ≡ None

pub truth_shows : (n : ℕ) (t : Trail) (m : Mark) → (1 ≤ m.part) × (m.part ≤ n) → Shows t m (truth (row n t) m)
truth_shows n t m r = grind (arith, row_at n t (m.part - 1) 0)

-- what the state of a rule says of its marks
abbrev pub Says : Trail → Rule → State → Type 0
Says t r broken = (y : Mark) → Among y r → Failed t y
Says t r (pressing x) = Among x r × (settled t x.part ≡ None) × ((y : Mark) → Among y r → (y ≡ x) ⊎ Failed t y)
Says t r quiet = ((y : Mark) → Among y r → settled t y.part ≢ None) → (y : Mark) × Among y r × (settled t y.part ≡ Some y.side)

-- a rule is broken, pressing or quiet for what its marks are
pub state_says : (n : ℕ) (t : Trail) (r : Rule) → Ranged n r → Says t r (state (row n t) r)
state_says n t [] w = λ y i. absurd i
state_says n t (m ∷ r) w = grind (arith, truth_shows n t m, w m, state_says n t r (λ y i. w y (inr i)))
