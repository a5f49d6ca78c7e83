-- What a session is seen as: its bench and the state of its search, and what each call promises.
use Rattle.std.specs.Prelude.{◌≡◌, ℕ, ◌+◌, ◌<◌, ◌≤◌, IsFalse, List, [], ◌∷◌, ◌++◌, Some, None, Ok, Err, Result}
use Rattle.parts.specs.declared.mark.Mark.{Mark}
use Rattle.parts.specs.declared.refusal.Refused.{Refused}
use Rattle.parts.specs.Rows.{Row}
use Rattle.book.specs.Meaning.{RuleBook}
use Rattle.book.specs.Choices.{ShowsFit, NamesClash}
use Rattle.book.specs.declared.Book as books
use Rattle.picker.specs.declared.Picker as pickers
use Rattle.shelf.specs.declared.Shelf as shelves
use Rattle.search.specs.declared.forgetting.Forgetting.{Forgetting}
use Rattle.search.specs.declared.report.Report.{Report}
use Rattle.search.specs.declared.report.Answer.{Answer}
use Rattle.search.specs.declared.report.Answer.TheVariants.{Fits, NoneFits, Spent}
use Rattle.search.specs.Bounds.{most_turns, most_steps}
use Rattle.search.specs.Machine.{Bench, Machine, stands}
use Rattle.search.specs.Calls.{Call, refuses_open, opened, calls}
use Rattle.search.specs.Law.{Fresh, LessonsFollow, Promised, Stands, budgets}
use Rattle.session.specs.declared.session.Session.{Session}
use Rattle.session.specs.Inner.{bench_in, state_in}

module _ {B P S : Type 0} {b : books.Ghosts B} {p : pickers.Ghosts P} {s : shelves.Ghosts S} where
  -- what it was opened with, and the shelf as it is now
  abbrev pub book_of : Session B P S b p s → B
  book_of x = x.search.book

  abbrev pub picker_of : Session B P S b p s → P
  picker_of x = x.search.picker

  abbrev pub shelf_of : Session B P S b p s → S
  shelf_of x = x.search.shelf

  abbrev pub forget_of : Session B P S b p s → Forgetting
  forget_of x = x.search.forget

  -- the bench and the state of its search
  abbrev pub bench_of : Session B P S b p s → Bench
  bench_of x = bench_in x.search

  abbrev pub state_of : Session B P S b p s → Machine
  state_of x = state_in x.search

  -- book, picker and forgetting rule are as they were
  abbrev pub Kept : Session B P S b p s → Session B P S b p s → Type 0
  Kept x y = (book_of y ≡ book_of x) × (picker_of y ≡ picker_of x) × (forget_of y ≡ forget_of x)

  -- What an opening returns: a session over the three, as the search opens; or the first refusal,
  -- and all three as they were.
  abbrev pub Opened : B → P → S → Forgetting → Result (Session B P S b p s) (Refused (B × P × S))
      → Type 0
  Opened book picker shelf f (Ok x) =
      (refuses_open (b.meaning book).n (p.meaning picker).n (s.meaning shelf).n f ≡ None)
      × (book_of x ≡ book) × (picker_of x ≡ picker) × (forget_of x ≡ f)
      × (state_of x ≡ opened (p.meaning picker) (s.meaning shelf))
      × Fresh (bench_of x) (state_of x)
  Opened book picker shelf f (Err e) =
      (refuses_open (b.meaning book).n (p.meaning picker).n (s.meaning shelf).n f ≡ Some e.refusal)
      × (e.back ≡ (book, picker, shelf))

-- What holds of every session, with no premise:
pub record Assured (b : Bench) (m : Machine) : Type 0 where
  -- each lesson on the shelf follows from the book
  pub lessons : LessonsFollow b m.shelf.rows
  -- a standing verdict is true
  pub verdict : Stands b m m.verdict
  -- turns and steps are bounded, and while no verdict stands, steps are below the bound
  pub turns : m.turns ≤ most_turns b.book.n
  pub steps : m.steps ≤ most_steps b.book.n
  pub below : IsFalse (stands m.verdict) → m.steps < most_steps b.book.n

-- a run that is spent took just its budget, and is below the bound: so a verdict comes once the
-- budgets add up to it
abbrev pub SpentBelow : ℕ → ℕ → ℕ → Report → Type 0
SpentBelow n before budget r =
    r.answer ≡ Spent → (r.steps ≡ before + budget) × (r.steps < most_steps n)

-- THE LAW on a call, over all lists of calls: whichever calls led from a fresh state to the state
-- before it, all that the search promises holds of the state after it.
abbrev pub PromisedAfter : Bench → Machine → Call → Machine → Type 0
PromisedAfter b m c n =
    (start : Machine) (cs : List Call) → Fresh b start → m ≡ calls b cs start
    → Promised b n (budgets b (cs ++ (c ∷ [])) start 0)

-- a row shows what the answer says: a choice that fits, holds that leave none, or nothing new
abbrev pub Shows : Answer → RuleBook → List Mark → Row → Row → Type 0
Shows Fits b hs old r = ShowsFit b hs r
Shows NoneFits b hs old r = NamesClash b hs r
Shows Spent b hs old r = r ≡ old
