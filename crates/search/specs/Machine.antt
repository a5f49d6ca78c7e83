-- The search machine: one step, the turn, the place written, forgetting, the run.
use Rattle.std.specs.Prelude.{ℕ, zero, suc, ◌+◌, ◌-◌, Bool, true, false, if◌then◌else◌, not, ◌&&◌, List, [], ◌∷◌, ◌++◌, map, length, replicate, Some, None, Option, ◌==◌, nat_le, nat_lt}
use Rattle.std.specs.List.{count_by, filter, find, list_any, range_with_len}
use Rattle.std.specs.Option.{option_and_then, option_or, unwrap_or}
use Rattle.parts.specs.Lists.{at_place}
use Rattle.parts.specs.Marks.{opposite_of}
use Rattle.parts.specs.Rows.{Row, row_marks, names_mark, is_full}
use Rattle.parts.specs.declared.mark.Mark.{Mark}
use Rattle.book.specs.Meaning.{Rule, RuleBook}
use Rattle.picker.specs.Meaning.{Picks, picked}
use Rattle.shelf.specs.Meaning.{Shelved, row_written}
use Rattle.search.specs.declared.entry.Entry.{Entry}
use Rattle.search.specs.declared.entry.Kind.{Kind}
use Rattle.search.specs.declared.entry.Kind.TheVariants.{Held, Picked, Forced}
use Rattle.search.specs.declared.forgetting.Forgetting.{Forgetting}
use Rattle.search.specs.declared.forgetting.Forgetting.TheVariants.{KeepAll, Size, Relevance, Bounded, Both}
use Rattle.search.specs.declared.reason.Reason.{Reason}
use Rattle.search.specs.declared.reason.Reason.TheVariants.{Book, Shelf}
use Rattle.search.specs.declared.report.Answer.{Answer}
use Rattle.search.specs.declared.report.Answer.TheVariants.{Fits, NoneFits}
use Rattle.search.specs.Trail.{Trail, row, reason_of_crossed, truth, says_open, State, broken, pressing, quiet, state, enter, leave}

-- What a session is opened with and keeps: what the book means, and the forgetting rule.
pub record Bench : Type 0 where
  pub book : RuleBook
  pub forget : Forgetting

-- A verdict, once one stands; "none fits" names holds by a row, 0 elsewhere.
pub data Verdict : Type 0 where
  working : Verdict
  fits : Verdict
  none_fits : Row → Verdict

-- each place of the shelf is empty or has a row of n codes
abbrev pub Places : Type 0
Places = List (Option Row)

-- A session's state: what the picker means, the holds in the order in which they were accepted, the
-- trail, what the shelf means, the place last written, the counts, the verdict.
pub record Machine : Type 0 where
  pub picker : Picks
  pub holds : List Mark
  pub trail : Trail
  pub shelf : Shelved
  pub last : ℕ
  pub steps : ℕ
  pub turns : ℕ
  pub verdict : Verdict

-- the lesson at a place: the rule of the marks that its row names
abbrev pub lesson : Option (Option Row) → Option Rule
lesson None = None
lesson (Some None) = None
lesson (Some (Some r)) = Some (row_marks r)

-- the rule that a reason speaks of
unfoldable pub rule_at : List Rule → Places → Reason → Option Rule
rule_at rs s (Book i) = at_place rs i
rule_at rs s (Shelf i) = lesson (at_place s i)

abbrev pub state_of : Row → Option Rule → State
state_of row None = quiet
state_of row (Some r) = state row r

-- all rules in their order: the book's, then the shelf's
unfoldable pub reasons : List Rule → Places → List Reason
reasons rs s = map Book (range_with_len 1 (length rs)) ++ map Shelf (range_with_len 1 (length s))

abbrev pub is_broken : State → Bool
is_broken broken = true
is_broken (pressing m) = false
is_broken quiet = false

abbrev pub is_pressing : State → Bool
is_pressing broken = false
is_pressing (pressing m) = true
is_pressing quiet = false

-- an open mark, and the rule that presses it
pub record Press : Type 0 where
  pub mark : Mark
  pub by : Reason

abbrev pub press_by : Reason → State → Option Press
press_by r broken = None
press_by r (pressing m) = Some (record { mark = m; by = r })
press_by r quiet = None

pub data Move : Type 0 where
  turn_on : Reason → Move
  force : Press → Move
  settle : Mark → Move
  fit : Move
  ask : Move

-- A step does the first of six that applies: a turn on the first broken rule; the first pressing
-- rule's open mark is forced; a turn on the reason of the earliest hold that is settled on the
-- other side; the earliest hold that is open is settled; all parts are settled, so it fits; the
-- picker is asked.
abbrev pub choose : Option Reason → Option Press → Option Reason → Option Mark → Bool → Move
choose (Some r) p c h s = turn_on r
choose None (Some p) c h s = force p
choose None None (Some r) h s = turn_on r
choose None None None (Some h) s = settle h
choose None None None None true = fit
choose None None None None false = ask

unfoldable pub look : Bench → Machine → Move
look b m =
    let now : Row = row b.book.n m.trail in
    let at : Reason → State = λ r. state_of now (rule_at b.book.rules m.shelf.rows r) in
    let all : List Reason = reasons b.book.rules m.shelf.rows in
    choose
    (find (λ r. is_broken (at r)) all)
    (option_and_then (λ r. press_by r (at r)) (find (λ r. is_pressing (at r)) all))
    (reason_of_crossed now m.trail m.holds)
    (find (λ h. says_open (truth now h)) m.holds)
    (is_full now)

-- THE TURN takes entries off the trail from the newest. The working rule is kept as the row of the
-- marks that it names. A forced part is resolved: the marks of the working rule and of the reason,
-- each once, without the two marks of that part.
unfoldable pub resolve : ℕ → Row → Option Rule → Row
resolve p c None = c
resolve p c (Some r) = leave p (enter c r)

-- an entry whose opposite is not in the working rule is passed; a held one leaves the rule alone
abbrev pub worked : Bool → Kind → ℕ → Row → (Reason → Option Rule) → Row
worked false k p c at = c
worked true Held p c at = c
worked true Picked p c at = c
worked true (Forced r) p c at = resolve p c (at r)

abbrev pub is_picked : Kind → Bool
is_picked Held = false
is_picked Picked = true
is_picked (Forced r) = false

-- it ends at the trail's bottom, or stops at a picked mark whose opposite is in the working rule
pub data Outcome : Type 0 where
  bottom : Row → Outcome
  stop : Mark → Row → Trail → Outcome

unfoldable pub turn : (Reason → Option Rule) → Row → Trail → Outcome
turn at c [] = bottom c
turn at c (e ∷ t) =
    let named : Bool = names_mark c (opposite_of e.mark) in
    elim (is_picked e.kind && named) [
      | true ↦ stop e.mark c t
      | false ↦ turn at (worked named e.kind e.mark.part c at) t
    ]

-- whether a place is a reason on the trail
abbrev pub by_place : ℕ → Kind → Bool
by_place i Held = false
by_place i Picked = false
by_place i (Forced (Book j)) = false
by_place i (Forced (Shelf j)) = i == j

unfoldable pub needed : Trail → ℕ → Bool
needed t i = list_any (λ (e : Entry). by_place i e.kind) t

abbrev pub is_empty : Option (Option Row) → Bool
is_empty None = false
is_empty (Some None) = true
is_empty (Some (Some r)) = false

-- the places after the last written, going round to it
unfoldable pub around : ℕ → ℕ → List ℕ
around last k = range_with_len (last + 1) (k - last) ++ range_with_len 1 last

-- the place written: the next empty one, else the next that is no reason on the trail
unfoldable pub next_place : Places → ℕ → Trail → Option ℕ
next_place s last t =
    let round : List ℕ = around last (length s) in
    option_or (find (λ i. is_empty (at_place s i)) round) (find (λ i. not (needed t i)) round)

-- FORGETTING: whether the rule forgets a lesson of s marks, u of them open
abbrev pub is_forgotten : Forgetting → ℕ → ℕ → Bool
is_forgotten KeepAll s u = false
is_forgotten (Size i) s u = nat_lt i s
is_forgotten (Relevance m) s u = nat_lt m u
is_forgotten (Bounded k) s u = nat_le k s && nat_lt 1 u
is_forgotten (Both k m) s u = nat_lt k s && nat_le m u

unfoldable pub open_count : Row → Rule → ℕ
open_count now r = count_by (λ m. says_open (truth now m)) r

-- whether a place is cleared: its lesson is forgotten, and no reason; `now` is the settled row
unfoldable pub drops : Forgetting → Row → Trail → ℕ → Option Row → Bool
drops f now t i None = false
drops f now t i (Some r) =
    not (needed t i) && is_forgotten f (length (row_marks r)) (open_count now (row_marks r))

-- the places from i on, after forgetting
unfoldable pub sweep : Forgetting → Row → Trail → ℕ → Places → Places
sweep f now t i [] = []
sweep f now t i (p ∷ s) = (if drops f now t i p then None else p) ∷ sweep f now t (i + 1) s

unfoldable pub swept : Forgetting → Row → Trail → Shelved → Shelved
swept f now t s = record s { rows = sweep f now t 1 s.rows }

-- the holds whose opposites are in the working rule, as a row
unfoldable pub named_holds : ℕ → Row → List Mark → Row
named_holds n c hs = enter (replicate n 0) (filter (λ h. names_mark c (opposite_of h)) hs)

-- ONE STEP: a mark is settled
unfoldable pub pushed : Machine → Mark → Kind → Machine
pushed m x k = record m { trail = record { mark = x; kind = k } ∷ m.trail; steps = suc m.steps }

-- a turn has ended: at the bottom no choice fits; at a pick the working rule is written as a
-- lesson, the opposite mark is forced by it, and lessons are forgotten (a shelf on which every
-- place is a reason takes no lesson: place 0 stands for none)
unfoldable pub turned : Bench → Machine → Outcome → Machine
turned b m (bottom c) =
    record m {
      trail = [];
      steps = suc m.steps;
      turns = suc m.turns;
      verdict = none_fits (named_holds b.book.n c m.holds);
    }
turned b m (stop x c t) =
    let i : ℕ = unwrap_or (next_place m.shelf.rows m.last t) 0 in
    let u : Trail = record { mark = opposite_of x; kind = Forced (Shelf i) } ∷ t in
    record m {
      trail = u;
      shelf = swept b.forget (row b.book.n u) u (row_written m.shelf i c);
      last = i;
      steps = suc m.steps;
      turns = suc m.turns;
    }

unfoldable pub fitted : Machine → Machine
fitted m = record m { steps = suc m.steps; verdict = fits }

-- the picker was asked: its mark is settled (a picker that fits the book always has one)
unfoldable pub asked : Machine → Option Mark → Machine
asked m None = record m { steps = suc m.steps }
asked m (Some x) = pushed m x Picked

abbrev pub marks_at : Option Rule → Rule
marks_at o = unwrap_or o []

unfoldable pub act : Bench → Machine → Move → Machine
act b m (turn_on r) =
    let at : Reason → Option Rule = rule_at b.book.rules m.shelf.rows in
    turned b m (turn at (enter (replicate b.book.n 0) (marks_at (at r))) m.trail)
act b m (force p) = pushed m p.mark (Forced p.by)
act b m (settle h) = pushed m h Held
act b m fit = fitted m
act b m ask = asked m (picked m.picker (row b.book.n m.trail))

unfoldable pub step : Bench → Machine → Machine
step b m = act b m (look b m)

-- whether a verdict stands
abbrev pub stands : Verdict → Bool
stands working = false
stands fits = true
stands (none_fits r) = true

-- the answer of the verdict that stands, if one does
abbrev pub standing : Verdict → Option Answer
standing working = None
standing fits = Some Fits
standing (none_fits r) = Some NoneFits

-- THE RUN: steps until the budget is used or a verdict stands
unfoldable pub run : Bench → ℕ → Machine → Machine
run b zero m = m
run b (suc k) m = elim (stands m.verdict) [ true ↦ m | false ↦ run b k (step b m) ]
