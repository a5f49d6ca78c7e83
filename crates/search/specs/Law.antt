-- What holds after every list of calls.
use Rattle.std.specs.Prelude.{◌≡◌, ℕ, ◌+◌, ◌≤◌, Bool, true, false, IsTrue, IsFalse, ◌&&◌, ◌≢◌, List, [], ◌∷◌, length, replicate, Some, None, Option}
use Rattle.std.specs.List.{Contains}
use Rattle.parts.specs.declared.mark.Mark.{Mark}
use Rattle.parts.specs.declared.refusal.Refusal.{Refusal}
use Rattle.parts.specs.Distinct.{is_distinct}
use Rattle.parts.specs.Lists.{at_place}
use Rattle.parts.specs.Marks.{opposite_of, other_side}
use Rattle.parts.specs.Rows.{Row, names_mark}
use Rattle.book.specs.Choices.{Choice, Meets, Obeys, ShowsFit, NamesClash}
use Rattle.book.specs.Meaning as books
use Rattle.book.specs.Meaning.{Rule}
use Rattle.picker.specs.Meaning as pickers
use Rattle.picker.specs.Meaning.{Picks, picked}
use Rattle.shelf.specs.Meaning as shelves
use Rattle.shelf.specs.Meaning.{Shelved, can_write}
use Rattle.search.specs.Bounds.{most_turns, most_steps}
use Rattle.search.specs.declared.entry.Kind.TheVariants.{Forced}
use Rattle.search.specs.declared.reason.Reason.{Reason}
use Rattle.search.specs.Trail.{Trail, settled, row, reason_of, enter}
use Rattle.search.specs.Machine.{Bench, Machine, Places, Verdict, working, fits, none_fits, lesson, rule_at, stands}
use Rattle.search.specs.Machine.{Press, is_picked, worked, turn_on, force, settle, ask, look, stop, turn, next_place}
use Rattle.search.specs.Calls.{Call, hold, release, run_for, refuses, call, calls, opened, restarted}

-- What book, picker and shelf mean is sound, and they have one n.
pub record Lawful (b : Bench) (p : Picks) (s : Shelved) : Type 0 where
  pub book : books.Sound b.book
  pub picker : pickers.Sound p
  pub shelf : shelves.Sound s
  pub same_picker : p.n ≡ b.book.n
  pub same_shelf : s.n ≡ b.book.n

-- every full choice that meets the book's rules meets each lesson, whichever parts are held
abbrev pub LessonsFollow : Bench → Places → Type 0
LessonsFollow b s =
    (i : ℕ) (r : Rule) → lesson (at_place s i) ≡ Some r
    → (f : Choice) → Obeys b.book.rules f → Meets f r

-- A fresh state: holds of distinct parts, an empty trail, no counts, no verdict, and lessons that
-- follow from the book.
pub record Fresh (b : Bench) (m : Machine) : Type 0 where
  pub lawful : Lawful b m.picker m.shelf
  pub holds : IsTrue (is_distinct b.book.n m.holds)
  pub lessons : LessonsFollow b m.shelf.rows
  pub last : m.last ≤ length m.shelf.rows
  pub trail : m.trail ≡ []
  pub steps : m.steps ≡ 0
  pub turns : m.turns ≡ 0
  pub verdict : m.verdict ≡ working

-- A standing "fits" shows a full choice that meets every rule and keeps every hold. A standing
-- "none fits" names only holds, and no full choice that meets every rule keeps all the named ones.
abbrev pub Stands : Bench → Machine → Verdict → Type 0
Stands b m working = Unit {0}
Stands b m fits = ShowsFit b.book m.holds (row b.book.n m.trail)
Stands b m (none_fits r) = NamesClash b.book m.holds r

-- the budgets of the accepted runs since the last fresh start: the first state, or the last
-- accepted hold or release
abbrev pub counted : Call → Option Refusal → ℕ → ℕ
counted (hold p s) None g = 0
counted (hold p s) (Some why) g = g
counted (release p) None g = 0
counted (release p) (Some why) g = g
counted (run_for k) None g = g + k
counted (run_for k) (Some why) g = g

unfoldable pub budgets : Bench → List Call → Machine → ℕ → ℕ
budgets b [] m g = g
budgets b (c ∷ cs) m g = budgets b cs (call b c m) (counted c (refuses b m c) g)

-- What is promised of a state, where `given` is what the budgets add up to:
pub record Promised (b : Bench) (m : Machine) (given : ℕ) : Type 0 where
  pub lessons : LessonsFollow b m.shelf.rows
  -- a standing verdict is true
  pub verdict : Stands b m m.verdict
  -- turns and steps are bounded
  pub turns : m.turns ≤ most_turns b.book.n
  pub steps : m.steps ≤ most_steps b.book.n
  -- and a verdict comes
  pub comes : most_steps b.book.n ≤ given → IsTrue (stands m.verdict)

-- THE LAW: for every forgetting rule, from every fresh state, after every list of calls with any
-- numbers, refused ones anywhere
abbrev pub SearchKeepsItsPromises : Type 0
SearchKeepsItsPromises =
    (b : Bench) (m : Machine) (cs : List Call) → Fresh b m
    → Promised b (calls b cs m) (budgets b cs m 0)

-- an opening is a fresh state, and so is each state after an accepted hold or release
pub record FreshStart (b : Bench) : Type 0 where
  pub opening : (p : Picks) (s : Shelved) → Lawful b p s → Fresh b (opened p s)
  pub restart : (m : Machine) (cs : List Call) (hs : List Mark) → Fresh b m
      → IsTrue (is_distinct b.book.n hs) → Fresh b (restarted (calls b cs m) hs)

abbrev pub FreshStarts : Type 0
FreshStarts = (b : Bench) → FreshStart b

abbrev pub is_run : Call → Bool
is_run (hold p s) = false
is_run (release p) = false
is_run (run_for k) = true

-- What a call leaves alone: a refused one everything, a hold or a release the lessons and the place
-- last written, a run under a standing verdict everything.
pub record Leaves (b : Bench) (m : Machine) (c : Call) : Type 0 where
  pub refused : (why : Refusal) → refuses b m c ≡ Some why → call b c m ≡ m
  pub lessons : IsFalse (is_run c) → ((call b c m).shelf ≡ m.shelf) × ((call b c m).last ≡ m.last)
  pub stands : IsTrue (is_run c) → IsTrue (stands m.verdict) → call b c m ≡ m

abbrev pub CallsLeaveTheRest : Type 0
CallsLeaveTheRest = (b : Bench) (m : Machine) (c : Call) → Leaves b m c

-- A part of the book that a trail leaves open.
pub record IsOpenPart (b : Bench) (t : Trail) (p : ℕ) : Type 0 where
  pub first : 1 ≤ p
  pub last : p ≤ b.book.n
  pub vacant : settled t p ≡ None

-- What the picker answers when it is asked.
pub record PickerAnswers (b : Bench) (m : Machine) (x : Mark) : Type 0 where
  pub answer : picked m.picker (row b.book.n m.trail) ≡ Some x
  pub free : IsOpenPart b m.trail x.part

-- A turn has stopped at the pick x with the working rule c, and t is left of the trail: there is a
-- place for the lesson, the shelf takes it there, and the part of the opposite mark is open.
pub record LessonFits (b : Bench) (m : Machine) (x : Mark) (c : Row) (t : Trail) (i : ℕ)
    : Type 0 where
  pub place : next_place m.shelf.rows m.last t ≡ Some i
  pub write : IsTrue (can_write m.shelf i c)
  pub opposite : IsOpenPart b t (opposite_of x).part

-- the rule that a reason speaks of
abbrev pub rule_of : Bench → Machine → Reason → Option Rule
rule_of b m r = rule_at b.book.rules m.shelf.rows r

-- no mark of a rule has its opposite in the working rule, the two marks of a part apart
abbrev pub Agrees : Row → ℕ → Rule → Type 0
Agrees c p R =
    (y : Mark) → Contains R y → y.part ≢ p → IsFalse (names_mark c (opposite_of y))

-- The working rule is a row, on which a mark takes the place of its opposite. On a turn from c over
-- the trail none is lost so: whatever is resolved, its reason is there and agrees with the working
-- rule.
unfoldable pub NoMarkLost : (Reason → Option Rule) → Row → Trail → Type 0
NoMarkLost at c [] = Unit {0}
NoMarkLost at c (e ∷ t) =
    let named : Bool = names_mark c (opposite_of e.mark) in
    ((r : Reason) → e.kind ≡ Forced r → IsTrue named
    → (R : Rule) × (at r ≡ Some R) × Agrees c e.mark.part R)
    × (IsFalse (is_picked e.kind && named)
    → NoMarkLost at (worked named e.kind e.mark.part c at) t)

-- a turn on a rule R
pub record TurnIsWhole (b : Bench) (m : Machine) (r : Reason) (R : Rule) : Type 0 where
  pub rule : rule_of b m r ≡ Some R
  pub apart : (y : Mark) → Contains R y → Contains R (opposite_of y) → ⊥
  pub marks : NoMarkLost (rule_of b m) (enter (replicate b.book.n 0) R) m.trail
  pub stops : (x : Mark) (c : Row) (t : Trail)
      → turn (rule_of b m) (enter (replicate b.book.n 0) R) m.trail ≡ stop x c t
      → (i : ℕ) × LessonFits b m x c t i

-- No branch of a definition that stands for what cannot be is ever taken:
pub record NothingHidden (b : Bench) (m : Machine) : Type 0 where
  -- after "none fits" nothing is settled
  pub bottom : (r : Row) → m.verdict ≡ none_fits r → m.trail ≡ []
  -- holds are of distinct parts, so that none takes another's place in the row that names them
  pub holds : IsTrue (is_distinct b.book.n m.holds)
  -- the place last written is one of the shelf's, or 0 where none is
  pub last : m.last ≤ length m.shelf.rows
  -- every rule, of the book or on the shelf, is over the book's parts, and has its place in a row
  pub parts : (r : Reason) (R : Rule) → rule_of b m r ≡ Some R
      → (y : Mark) → Contains R y → (1 ≤ y.part) × (y.part ≤ b.book.n)
  -- each reason on the trail is a rule that is there
  pub reasons : (p : ℕ) (r : Reason) → reason_of m.trail p ≡ Some r
      → (R : Rule) × (rule_of b m r ≡ Some R)
  -- a hold that is settled on the other side is so for a reason
  pub crossed : (h : Mark) → Contains m.holds h
      → settled m.trail h.part ≡ Some (other_side h.side)
      → (r : Reason) × (reason_of m.trail h.part ≡ Some r)
  -- a picker that is asked has an answer, an open part
  pub ask : m.verdict ≡ working → look b m ≡ ask → (x : Mark) × PickerAnswers b m x
  -- a turn is on a rule that is there, no mark is lost on it, and its lesson has a place
  pub turn_on : (r : Reason) → m.verdict ≡ working → look b m ≡ turn_on r
      → (R : Rule) × TurnIsWhole b m r R
  -- a mark that is forced, and a hold that is settled, is of an open part
  pub force : (p : Press) → m.verdict ≡ working → look b m ≡ force p
      → IsOpenPart b m.trail p.mark.part
  pub settle : (h : Mark) → m.verdict ≡ working → look b m ≡ settle h
      → IsOpenPart b m.trail h.part

abbrev pub NothingIsHidden : Type 0
NothingIsHidden =
    (b : Bench) (m : Machine) (cs : List Call) → Fresh b m → NothingHidden b (calls b cs m)
