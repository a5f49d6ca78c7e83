-- A whole search in one call: what it refuses, how it ends, and what that means.
use Rattle.std.specs.Prelude.{◌≡◌, ℕ, ◌≤◌, Bool, false, not, ◌||◌, List, [], ◌∷◌, None, Option, ◌==◌}
use Rattle.std.specs.List.{list_all}
use Rattle.std.specs.Option.{option_or}
use Rattle.parts.specs.declared.mark.Mark.{Mark}
use Rattle.parts.specs.declared.refusal.Refusal.{Refusal}
use Rattle.parts.specs.declared.refusal.Refusal.TheVariants.{PartOutOfRange, AlreadyHeld, RowLength}
use Rattle.parts.specs.Distinct.{names, is_part}
use Rattle.parts.specs.Rows.{Row}
use Rattle.book.specs.Meaning.{RuleBook}
use Rattle.picker.specs.Meaning.{Picks}
use Rattle.shelf.specs.Meaning.{Shelved}
use Rattle.search.specs.declared.report.Report.{Report}
use Rattle.search.specs.declared.report.Answer.TheVariants.{Spent}
use Rattle.search.specs.Bounds.{most_turns, most_steps}
use Rattle.search.specs.Trail.{row}
use Rattle.search.specs.Machine.{Bench, Machine, Verdict, working, fits, none_fits, run}
use Rattle.search.specs.Calls.{if_so, opened, refuses_budget, refuses_open, restarted}
use Rattle.session.specs.View.{Shows}

-- whether some part is named twice
abbrev pub names_twice : List Mark → Bool
names_twice [] = false
names_twice (m ∷ ms) = names ms m.part || names_twice ms

-- holds are refused where one names no part, else where a part is held twice
abbrev pub refuses_holds : ℕ → List Mark → Option Refusal → Option Refusal
refuses_holds n hs rest =
    if_so (not (list_all (λ h. is_part n h.part) hs)) PartOutOfRange
    (if_so (names_twice hs) AlreadyHeld rest)

-- all is judged before anything is changed: the opening, the holds, the budget, and the row's
-- length
abbrev pub refuses_solve : Bench → Picks → Shelved → List Mark → ℕ → ℕ → Option Refusal
refuses_solve b p s hs k len =
    option_or (refuses_open b.book.n p.n s.n b.forget)
    (refuses_holds b.book.n hs (refuses_budget k (if_so (not (len == b.book.n)) RowLength None)))

-- the state at the end: an opening, the holds, and one run
abbrev pub solved : Bench → Picks → Shelved → List Mark → ℕ → Machine
solved b p s hs k = run b k (restarted (opened p s) hs)

-- the row at the end: the choice that fits, or the holds that clash; as it was where the budget is
-- spent
abbrev pub row_by : Verdict → Row → Row → Row
row_by working now old = old
row_by fits now old = now
row_by (none_fits r) now old = r

abbrev pub solved_row : ℕ → Machine → Row → Row
solved_row n m old = row_by m.verdict (row n m.trail) old

-- WHAT IT MEANS, in the report's answer: the row shows a choice that fits, or names holds that
-- leave none, or is as it was; turns and steps are bounded; and a budget of most_steps is never
-- spent.
pub record SolvedTruly (b : RuleBook) (hs : List Mark) (k : ℕ) (old new : Row)
    (r : Report) : Type 0 where
  pub shows : Shows r.answer b hs old new
  pub turns : r.turns ≤ most_turns b.n
  pub steps : r.steps ≤ most_steps b.n
  pub ends : most_steps b.n ≤ k → r.answer ≡ Spent → ⊥
