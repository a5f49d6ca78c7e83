-- Open, hold, release, run and the questions: their refusals and replies, and the state after them.
use Rattle.std.specs.Prelude.{ℕ, ◌+◌, Bool, true, false, if◌then◌else◌, not, ◌&&◌, ◌||◌, List, [], ◌∷◌, ◌++◌, length, replicate, is_some, Some, None, Ok, Err, Option, Result, ◌==◌, nat_le, nat_lt}
use Rattle.parts.specs.Codes.{side_of}
use Rattle.parts.specs.declared.limits.TheConstants.{MOST_PARTS, MOST_BUDGET, MOST_STEPS}
use Rattle.parts.specs.declared.mark.Mark.{Mark}
use Rattle.parts.specs.declared.side.Side.{Side}
use Rattle.parts.specs.declared.refusal.Refusal.{Refusal}
use Rattle.parts.specs.declared.refusal.Refusal.TheVariants.{OpenPartsDiffer, ForgettingOutOfRange, PartOutOfRange, NoSide, AlreadyHeld, NotHeld, BudgetOutOfRange, StepsOutOfRange, RowLength, NoSuchVerdict}
use Rattle.parts.specs.Distinct.{names, is_part, released}
use Rattle.parts.specs.Rows.{Row}
use Rattle.picker.specs.Meaning.{Picks}
use Rattle.shelf.specs.Meaning.{Shelved}
use Rattle.search.specs.declared.forgetting.Forgetting.{Forgetting}
use Rattle.search.specs.declared.forgetting.Forgetting.TheVariants.{KeepAll, Size, Relevance, Bounded, Both}
use Rattle.search.specs.declared.report.Report.{Report}
use Rattle.search.specs.declared.report.Answer.{Answer}
use Rattle.search.specs.declared.report.Answer.TheVariants.{Fits, NoneFits, Spent}
use Rattle.search.specs.Trail.{settled, code, row}
use Rattle.search.specs.Machine.{Bench, Machine, Verdict, working, fits, none_fits, stands, run}

-- the first refusal that applies
abbrev pub if_so : Bool → Refusal → Option Refusal → Option Refusal
if_so true why rest = Some why
if_so false why rest = rest

-- OPENING: book, picker and shelf have one n, and no forgetting number is above 120
abbrev pub in_range : Forgetting → Bool
in_range KeepAll = true
in_range (Size i) = nat_le i MOST_PARTS
in_range (Relevance m) = nat_le m MOST_PARTS
in_range (Bounded k) = nat_le k MOST_PARTS
in_range (Both k m) = nat_le k MOST_PARTS && nat_le m MOST_PARTS

abbrev pub refuses_open : ℕ → ℕ → ℕ → Forgetting → Option Refusal
refuses_open book picker shelf forget =
    if_so (not (book == picker && book == shelf)) OpenPartsDiffer
    (if_so (not (in_range forget)) ForgettingOutOfRange None)

-- every place of a shelf emptied
abbrev pub emptied : Shelved → Shelved
emptied s = record s { rows = replicate (length s.rows) None }

-- the same lessons under other holds: the trail is emptied, and steps and turns are 0
unfoldable pub restarted : Machine → List Mark → Machine
restarted m hs = record m { holds = hs; trail = []; steps = 0; turns = 0; verdict = working }

-- a session that was opened with a picker and a shelf: every place is emptied, with no holds, an
-- empty trail and no counts
unfoldable pub opened : Picks → Shelved → Machine
opened p s =
    record {
      picker = p;
      holds = [];
      trail = [];
      shelf = emptied s;
      last = 0;
      steps = 0;
      turns = 0;
      verdict = working;
    }

-- hold a part on the side of a code; release a part; run with a budget
pub data Call : Type 0 where
  hold : ℕ → ℕ → Call
  release : ℕ → Call
  run_for : ℕ → Call

-- a budget is from 1 to 1,000,000
abbrev pub refuses_budget : ℕ → Option Refusal → Option Refusal
refuses_budget k rest = if_so (k == 0 || nat_lt MOST_BUDGET k) BudgetOutOfRange rest

abbrev pub refuses_part : ℕ → ℕ → Option Refusal → Option Refusal
refuses_part n p rest = if_so (not (is_part n p)) PartOutOfRange rest

unfoldable pub refuses : Bench → Machine → Call → Option Refusal
refuses b m (hold p s) =
    refuses_part b.book.n p
    (if_so (not (is_some (side_of s))) NoSide (if_so (names m.holds p) AlreadyHeld None))
refuses b m (release p) = refuses_part b.book.n p (if_so (not (names m.holds p)) NotHeld None)
refuses b m (run_for k) =
    refuses_budget k
    (if_so (not (stands m.verdict) && nat_lt MOST_STEPS (m.steps + k)) StepsOutOfRange None)

-- a new hold
abbrev pub held_on : ℕ → Option Side → List Mark
held_on p None = []
held_on p (Some s) = record { part = p; side = s } ∷ []

unfoldable pub accepted : Bench → Call → Machine → Machine
accepted b (hold p s) m = restarted m (m.holds ++ held_on p (side_of s))
accepted b (release p) m = restarted m (released p m.holds)
accepted b (run_for k) m = run b k m

-- the state after a call: a refused one changes nothing
abbrev pub unless : Option Refusal → Machine → Machine → Machine
unless None m n = n
unless (Some why) m n = m

unfoldable pub call : Bench → Call → Machine → Machine
call b c m = unless (refuses b m c) m (accepted b c m)

unfoldable pub calls : Bench → List Call → Machine → Machine
calls b [] m = m
calls b (c ∷ cs) m = calls b cs (call b c m)

-- THE REPLIES: a refusal, or what the call returns
abbrev pub ok_unless : {X : Type 0} → Option Refusal → X → Result X Refusal
ok_unless None x = Ok x
ok_unless (Some why) x = Err why

abbrev pub answer_of : Verdict → Answer
answer_of working = Spent
answer_of fits = Fits
answer_of (none_fits r) = NoneFits

abbrev pub report : Machine → Report
report m = record { answer = answer_of m.verdict; steps = m.steps; turns = m.turns }

-- a hold's or a release's, and a run's
abbrev pub call_reply : Bench → Machine → Call → Result (Unit {0}) Refusal
call_reply b m c = ok_unless (refuses b m c) tt

abbrev pub run_reply : Bench → Machine → ℕ → Result Report Refusal
run_reply b m k = ok_unless (refuses b m (run_for k)) (report (call b (run_for k) m))

-- THE QUESTIONS: the settled code of a part; the choice, and the named holds, into a row
abbrev pub settled_code : ℕ → Machine → ℕ → Result ℕ Refusal
settled_code n m p = ok_unless (refuses_part n p None) (code (settled m.trail p))

abbrev pub choice_by : ℕ → Machine → Verdict → Result Row Refusal
choice_by n m working = Err NoSuchVerdict
choice_by n m fits = Ok (row n m.trail)
choice_by n m (none_fits r) = Err NoSuchVerdict

abbrev pub choice_row : ℕ → Machine → ℕ → Result Row Refusal
choice_row n m len = if len == n then choice_by n m m.verdict else Err RowLength

abbrev pub named_by : Verdict → Result Row Refusal
named_by working = Err NoSuchVerdict
named_by fits = Err NoSuchVerdict
named_by (none_fits r) = Ok r

abbrev pub named_row : ℕ → Machine → ℕ → Result Row Refusal
named_row n m len = if len == n then named_by m.verdict else Err RowLength
