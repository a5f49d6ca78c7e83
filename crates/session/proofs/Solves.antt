-- A whole search: the holds that are accepted, one run, and what it shows.
use Rattle.std.proofs.Common.{◌≡◌, ℕ, zero, suc, ◌+◌, ◌<◌, ◌≤◌, true, false, ◌||◌, eqb, List, [], ◌∷◌, ◌++◌, length, take, drop, get_or, Option, None, Ok, refl, arith}
use Rattle.std.specs.List.{list_all}
use Rattle.std.proofs.lemmas.List.{take_more, take-append-drop}
use Rattle.std.proofs.lemmas.Bool.Decides.{nat_tests}
use Rattle.parts.specs.declared.limits.TheConstants.{MOST_PARTS}
use Rattle.parts.specs.declared.mark.Mark.{Mark}
use Rattle.parts.specs.declared.refusal.Refusal.{Refusal}
use Rattle.parts.specs.Distinct.{names, is_part, is_distinct}
use Rattle.parts.specs.Rows.{Row}
use Rattle.search.specs.Trail.{row}
use Rattle.search.specs.Machine.{Bench, Machine, Move, Verdict, working, fits, none_fits, act, asked, fitted, pushed, turned, look, step, run}
use Rattle.search.specs.Calls.{run_for, answer_of, refuses, refuses_budget, refuses_open, ok_unless, report}
use Rattle.search.specs.Law.{Stands}
use Rattle.search.specs.declared.report.Report.{Report}
use Rattle.picker.specs.Meaning.{Picks}
use Rattle.shelf.specs.Meaning.{Shelved}
use Rattle.session.specs.Solving.{names_twice, refuses_solve, row_by, solved_row, SolvedTruly}
use Rattle.session.specs.View.{Assured, Shows, SpentBelow}

-- distinct parts are parts, none named twice
pub distinct_by : (n : ℕ) (hs : List Mark) → list_all (λ h. is_part n h.part) hs ≡ true → names_twice hs ≡ false → is_distinct n hs ≡ true
distinct_by n [] a t = refl
distinct_by n (h ∷ hs) a t = grind (arith, distinct_by n hs)

-- one hold more
names-push : (hs : List Mark) (m : Mark) (p : ℕ) → names (hs ++ m ∷ []) p ≡ (names hs p || eqb m.part p)
names-push [] m p = grind arith
names-push (h ∷ hs) m p = grind (arith, names-push hs m p)

twice-push : (hs : List Mark) (m : Mark) → names_twice (hs ++ m ∷ []) ≡ (names_twice hs || names hs m.part)
twice-push [] m = refl
twice-push (h ∷ hs) m = grind (arith, nat_tests, names-push hs m h.part, twice-push hs m)

-- what is named twice in the front is named twice
names-append : (xs ys : List Mark) (p : ℕ) → names xs p ≡ true → names (xs ++ ys) p ≡ true
names-append [] ys p h = grind arith
names-append (x ∷ xs) ys p h = grind (arith, names-append xs ys p)

twice-append : (xs ys : List Mark) → names_twice xs ≡ true → names_twice (xs ++ ys) ≡ true
twice-append [] ys h = grind arith
twice-append (x ∷ xs) ys h = grind (arith, names-append xs ys x.part, twice-append xs ys)

module _ (hs : List Mark) (i : ℕ) (d : Mark) (l : i < length hs) where
  pub twice_more : names_twice (take (i + 1) hs) ≡ (names_twice (take i hs) || names (take i hs) (get_or hs i d).part)
  twice_more = rw (take_more hs i d l) (twice-push (take i hs) (get_or hs i d))

  -- where the next hold is held already, some part is named twice
  pub held_twice : names (take i hs) (get_or hs i d).part ≡ true → names_twice hs ≡ true
  held_twice h = rw (← take-append-drop (i + 1) hs) (twice-append (take (i + 1) hs) (drop (i + 1) hs) (rw (twice_more, h) (grind arith)))

-- each mark of a list of parts is a part, of any greater number too
pub part_within : (n : ℕ) (hs : List Mark) (i : ℕ) (d : Mark) → n ≤ MOST_PARTS → list_all (λ h. is_part n h.part) hs ≡ true → i < length hs → is_part MOST_PARTS (get_or hs i d).part ≡ true
part_within n [] i d few a l = absurd (omega arith)
part_within n (h ∷ hs) zero d few a l = grind (arith, nat_tests)
part_within n (h ∷ hs) (suc i) d few a l = grind (arith, part_within n hs i d)

-- a run that is accepted on a fresh state
pub accepted_run : (b : Bench) (m : Machine) (k : ℕ) → refuses_budget k None ≡ None → m.steps ≡ 0 → refuses b m (run_for k) ≡ None
unfolding refuses
accepted_run b m k h z = grind (arith, nat_tests)

-- a run keeps the holds
act_holds : (b : Bench) (m : Machine) (v : Move) → (act b m v).holds ≡ m.holds
unfolding act pushed fitted turned asked
act_holds b m v = grind arith

pub run_holds : (b : Bench) (k : ℕ) (m : Machine) → (run b k m).holds ≡ m.holds
unfolding run step
run_holds b zero m = refl
run_holds b (suc k) m = grind (arith, act_holds b m (look b m), run_holds b k (step b m))

-- the row at the end shows what the answer says
pub shows_by : (b : Bench) (m : Machine) (v : Verdict) (old : Row) → Stands b m v → Shows (answer_of v) b.book m.holds old (row_by v (row b.book.n m.trail) old)
shows_by b m working old s = refl
shows_by b m fits old s = s
shows_by b m (none_fits r) old s = s

-- what is known where a whole search is accepted
pub record Accepted (b : Bench) (p : Picks) (s : Shelved) (hs : List Mark) (k len : ℕ) : Type 0 where
  pub opens : refuses_open b.book.n p.n s.n b.forget ≡ None
  pub held : is_distinct b.book.n hs ≡ true
  pub budget : refuses_budget k None ≡ None
  pub long : len ≡ b.book.n

pub accepted_solve : (b : Bench) (p : Picks) (s : Shelved) (hs : List Mark) (k len : ℕ) → refuses_solve b p s hs k len ≡ None → Accepted b p s hs k len
accepted_solve b p s hs k len h =
    record {
      opens = grind arith;
      held = distinct_by b.book.n hs (grind arith) (grind arith);
      budget = grind arith;
      long = grind (arith, nat_tests);
    }

pub ok_parts : {X : Type 0} (o : Option Refusal) (x y : X) → ok_unless o x ≡ Ok y → (o ≡ None) × (y ≡ x)
ok_parts o x y h = grind arith

-- one run from fresh holds ends truly
pub ends_truly : (b : Bench) (m n : Machine) (k : ℕ) (old : Row) (r : Report) → n ≡ run b k m → m.steps ≡ 0 → r ≡ report n → Assured b n → SpentBelow b.book.n m.steps k r
    → SolvedTruly b.book m.holds k old (solved_row b.book.n n old) r
ends_truly b m n k old r e z q a sp =
    record {
      shows = rw (q, ← run_holds b k m, ← e) (shows_by b n n.verdict old a.verdict);
      turns = rw q a.turns;
      steps = rw q a.steps;
      ends = λ l s. let (is, low) = sp s in omega (arith, is, low, z);
    }
