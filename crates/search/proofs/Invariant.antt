-- What every state of a session keeps.
use Rattle.std.proofs.Common.{◌≡◌, ℕ, suc, ◌+◌, ◌-◌, ◌*◌, ◌^◌, ◌≤◌, true, ◌⊎◌, [], ◌∷◌, length, Some, None, Option}
use Rattle.parts.specs.Distinct.{is_distinct}
use Rattle.parts.specs.Marks.{other_side}
use Rattle.parts.specs.declared.mark.Mark.{Mark}
use Rattle.parts.proofs.Among.{Among}
use Rattle.book.specs.Choices.{Choice, Takes, Obeys}
use Rattle.book.specs.Meaning.{Rule}
use Rattle.search.specs.declared.entry.Kind.{Kind}
use Rattle.search.specs.declared.entry.Kind.TheVariants.{Held, Picked, Forced}
use Rattle.search.specs.declared.reason.Reason.{Reason}
use Rattle.search.specs.Bounds.{most_turns, most_steps}
use Rattle.search.specs.Trail.{Trail, settled}
use Rattle.search.specs.Machine.{Bench, Verdict, working, fits, none_fits, Machine, rule_at}
use Rattle.search.specs.Law.{Lawful, Stands}

-- a mark is false under a trail
abbrev pub Failed : Trail → Mark → Type 0
Failed t y = settled t y.part ≡ Some (other_side y.side)

-- the marks of a rule are over n parts
abbrev pub Ranged : ℕ → Rule → Type 0
Ranged n r = (y : Mark) → Among y r → (1 ≤ y.part) × (y.part ≤ n)

-- every choice that obeys meets a rule
abbrev pub Follows : (Choice → Type 0) → Rule → Type 0
Follows Ob r = (f : Choice) → Ob f → (y : Mark) × Among y r × Takes f y

-- each hold is settled on its side
abbrev pub Kept : Rule → Trail → Type 0
Kept hs t = (h : Mark) → Among h hs → settled t h.part ≡ Some h.side

-- why an entry stands on the older trail t: it is held; or picked after all holds; or forced by a rule whose other marks are false
abbrev pub Why : Rule → (Reason → Option Rule) → Kind → Mark → Trail → Type 0
Why hs at Held x t = Among x hs
Why hs at Picked x t = Kept hs t
Why hs at (Forced r) x t = (R : Rule) × (at r ≡ Some R) × Among x R × ((y : Mark) → Among y R → (y ≡ x) ⊎ Failed t y)

-- each entry settles an open part, and stands for a reason
abbrev pub Sound : ℕ → Rule → (Reason → Option Rule) → Trail → Type 0
Sound n hs at [] = Unit {0}
Sound n hs at (e ∷ t) =
    (settled t e.mark.part ≡ None) × ((1 ≤ e.mark.part) × (e.mark.part ≤ n)) × Why hs at e.kind e.mark t × Sound n hs at t

-- the trail as a binary number: the oldest entry has the highest weight, and picked ones count 0
abbrev pub weight : Kind → ℕ → ℕ
weight Held w = w
weight Picked w = 0
weight (Forced r) w = w

unfoldable pub worth : ℕ → Trail → ℕ
worth n [] = 0
worth n (e ∷ t) = worth n t + weight e.kind (2 ^ (n - suc (length t)))

-- turns and steps where a verdict stands
abbrev pub Final : Bench → ℕ → ℕ → Type 0
Final b turns steps = (turns ≤ most_turns b.book.n) × (steps ≤ most_steps b.book.n)

-- what is kept of the counts and the verdict; after "none fits" nothing is settled
abbrev pub Counts : Bench → Machine → Verdict → Type 0
Counts b m working = (m.turns ≤ worth b.book.n m.trail) × (m.steps ≤ m.turns * (b.book.n + 1) + length m.trail)
Counts b m fits = Final b m.turns m.steps × Stands b m fits
Counts b m (none_fits r) = Final b m.turns m.steps × Stands b m (none_fits r) × (m.trail ≡ [])

-- THE INVARIANT: what book, picker and shelf mean, holds, rules, trail, counts and verdict
pub record Inv (b : Bench) (m : Machine) : Type 0 where
  pub lawful : Lawful b m.picker m.shelf
  pub holds : is_distinct b.book.n m.holds ≡ true
  pub last : m.last ≤ length m.shelf.rows
  pub good : (r : Reason) (R : Rule) → rule_at b.book.rules m.shelf.rows r ≡ Some R → Follows (Obeys b.book.rules) R × Ranged b.book.n R
  pub sound : Sound b.book.n m.holds (rule_at b.book.rules m.shelf.rows) m.trail
  pub counts : Counts b m m.verdict
