-- What a session keeps, call by call, and what follows from it with no premise.
use Rattle.std.proofs.Common.{◌≡◌, ℕ, ◌<◌, Bool, true, false, ◌&&◌, eqb, subst, List, [], ◌∷◌, ◌++◌, IfOk, OnOk, Option, Some, None, Err, cond, sym, refl, ap, ◌∙◌, arith}
use mathlib.Core.Bool.{Bool-set}
use mathlib.Core.HLevel.{⊥_prop}
use Rattle.std.proofs.Math.Logic.{∥∥₁_elim, ∥∥₁_map}
use Rattle.std.specs.Coded.{le_prop}
use Rattle.std.specs.List.{Contains, list_any}
use Rattle.parts.specs.declared.mark.Mark.{Mark}
use Rattle.parts.specs.Rows.{Row, row_marks, same_side}
use Rattle.parts.proofs.Among.{Among, all_among, among_all, contains_among, among_at}
use Rattle.book.specs.Meaning.{Rule}
use Rattle.book.specs.Choices.{ShowsFit, NamesClash, shown}
use Rattle.book.proofs.ChoiceLaws.{meets_says, meets_shows, obeys_says, obeys_shows, keeps_says, keeps_shows, any_says, any_shows}
use Rattle.search.specs.Bounds.{most_steps}
use Rattle.search.specs.Machine.{Bench, Machine, Verdict, working, fits, none_fits, stands, run}
use Rattle.search.specs.declared.report.Answer.TheVariants.{Spent}
use Rattle.parts.specs.declared.refusal.Refusal.{Refusal}
use Rattle.search.specs.Calls.{Call, run_for, run_reply, ok_unless, answer_of, call, calls, accepted, opened, restarted, report, refuses, refuses_open, choice_by, choice_row, named_by, named_row}
use Rattle.search.specs.Law.{Lawful, Fresh, Promised, Stands, budgets}
use Rattle.search.proofs.Promises.{fresh_starts, run_used, search_keeps_its_promises, calls_more, steps_below}
use Rattle.session.specs.Reaching.{Reached}
use Rattle.session.specs.View.{Assured, SpentBelow, PromisedAfter}
use Rattle.session.specs.Inner.{bench_in, state_in, Kept}
use Rattle.session.specs.declared.search_state.Search.{Search}
use Rattle.book.specs.declared.Book as books
use Rattle.book.specs.Meaning as books_of
use Rattle.picker.specs.Meaning as picks_of
use Rattle.shelf.specs.Meaning as shelved_of
use Rattle.search.specs.declared.forgetting.Forgetting.{Forgetting}
use Rattle.search.specs.Trail.{row}
use Rattle.std.proofs.lemmas.Bool.Decides.{nat_tests}
use Rattle.parts.specs.declared.refusal.Refusal.TheVariants.{RowLength}
use Rattle.session.specs.Rows.{done, row_or, shown_codes, fitting_by, fitting_row, clashing_by, clashing_row}
use Rattle.picker.specs.declared.Picker as pickers
use Rattle.picker.specs.Meaning.{Picks}
use Rattle.shelf.specs.declared.Shelf as shelves
use Rattle.shelf.specs.Meaning.{Shelved}
use Rattle.parts.specs.Distinct.{is_distinct}

-- the state that was reached, and one more call
pub reached_more : (b : Bench) (m n : Machine) (c : Call) → n ≡ call b c m → Reached b m → Reached b n
reached_more b m n c e r =
    record { start = r.start; since = r.since ++ (c ∷ []); fresh = r.fresh; is = e ∙ (ap (call b c) r.is ∙ sym (calls_more b r.since c r.start)) }

-- the law over all lists of calls, after one more call
pub promised_after : (b : Bench) (m n : Machine) (c : Call) → n ≡ call b c m → PromisedAfter b m c n
promised_after b m n c e start cs fresh from = rw (e, from, ← calls_more b cs c start) (search_keeps_its_promises b start (cs ++ (c ∷ [])) fresh)

-- what a reached state promises
promised : (b : Bench) (m : Machine) (r : Reached b m) → Promised b m (budgets b r.since r.start 0)
promised b m r = rw r.is (search_keeps_its_promises b r.start r.since r.fresh)

below : (b : Bench) (m : Machine) → Reached b m → stands m.verdict ≡ false → m.steps < most_steps b.book.n
below b m r h = rw r.is (steps_below r.fresh r.since (rw r.is at h))

-- a mark among others, as a test
same_mark : Mark → Mark → Bool
same_mark m h = eqb h.part m.part && same_side h.side m.side

mark_says : (m h : Mark) → same_mark m h ≡ true → h ≡ m
unfolding same_mark
mark_says m h e = grind arith

mark_shows : (m h : Mark) → h ≡ m → same_mark m h ≡ true
unfolding same_mark
mark_shows m h e = grind arith

held_says : (hs : List Mark) (m : Mark) → list_any (same_mark m) hs ≡ true → Contains hs m
held_says hs m h = let (x, i, e) = any_says (same_mark m) (λ x. x ≡ m) (mark_says m) hs h in among_at hs m (subst (λ y. Among y hs) e i)

held_shows : (hs : List Mark) (m : Mark) → Contains hs m → list_any (same_mark m) hs ≡ true
held_shows hs m c = any_shows (same_mark m) (λ x. x ≡ m) (mark_shows m) hs m (contains_among hs m c) refl

-- A standing verdict that is true under a truncated premise is true: each of its facts is a test, or a contradiction.
module _ {R : Type 0} (t : ∥ R ∥₁) where
  tested : (b : Bool) → (R → b ≡ true) → b ≡ true
  tested b f = ∥∥₁_elim t (Bool-set b true) f

  fit_shown : (b : Bench) (hs : List Mark) (row : Row) → (R → ShowsFit b.book hs row) → ShowsFit b.book hs row
  fit_shown b hs row f =
      record {
        long = tested _ (λ r. (f r).long);
        full = tested _ (λ r. (f r).full);
        obeys = obeys_says b.book.rules (shown row) (tested _ (λ r. obeys_shows b.book.rules (shown row) (f r).obeys));
        keeps = keeps_says hs (shown row) (tested _ (λ r. keeps_shows hs (shown row) (f r).keeps));
      }

  clash_named : (b : Bench) (hs : List Mark) (row : Row) → (R → NamesClash b.book hs row) → NamesClash b.book hs row
  clash_named b hs row f =
      record {
        long = tested _ (λ r. (f r).long);
        held = among_all (Contains hs) (row_marks row) (λ m i. held_says hs m (tested _ (λ r. held_shows hs m (all_among (Contains hs) (row_marks row) (f r).held m i))));
        none = λ g o k. ∥∥₁_elim t ⊥_prop (λ r. (f r).none g o k);
      }

  stands_true : (b : Bench) (m : Machine) (v : Verdict) → (R → Stands b m v) → Stands b m v
  stands_true b m working f = tt
  stands_true b m fits f = fit_shown b m.holds _ f
  stands_true b m (none_fits row) f = clash_named b m.holds row f

-- what every session is assured of
pub assured : (b : Bench) (m : Machine) → ∥ Reached b m ∥₁ → Assured b m
assured b m t =
    record {
      lessons = λ i r e f o. meets_says f r (tested t _ (λ q. meets_shows f r ((promised b m q).lessons i r e f o)));
      verdict = stands_true t b m m.verdict (λ q. (promised b m q).verdict);
      turns = ∥∥₁_elim t le_prop (λ q. (promised b m q).turns);
      steps = ∥∥₁_elim t le_prop (λ q. (promised b m q).steps);
      below = λ h. ∥∥₁_elim t le_prop (λ q. below b m q h);
    }

-- a state that began under these holds is fresh, and is reached by no call
pub begun : (b : Bench) (p : Picks) (s : Shelved) (hs : List Mark) (m : Machine) → Lawful b p s → is_distinct b.book.n hs ≡ true → m ≡ restarted (opened p s) hs → Fresh b m
unfolding calls
begun b p s hs m law held e = rw e ((fresh_starts b).restart (opened p s) [] hs ((fresh_starts b).opening p s law) held)

pub reached_fresh : (b : Bench) (m : Machine) → Fresh b m → Reached b m
unfolding calls
reached_fresh b m f = record { start = m; since = []; fresh = f; is = refl }

-- no holds: that is an opening
pub opened_bare : (p : Picks) (s : Shelved) → restarted (opened p s) [] ≡ opened p s
unfolding opened restarted
opened_bare p s = refl

-- a run that is spent took just its budget, and is below the bound
not_standing : (v : Verdict) → answer_of v ≡ Spent → stands v ≡ false
not_standing v e = grind arith

pub run_accepted : (b : Bench) (m : Machine) (k : ℕ) → refuses b m (run_for k) ≡ None → call b (run_for k) m ≡ run b k m
unfolding call accepted
run_accepted b m k h = grind arith

pub spent_below : (b : Bench) (m n : Machine) (k : ℕ) → n ≡ call b (run_for k) m → Assured b n → IfOk (run_reply b m k) (SpentBelow b.book.n m.steps k)
spent_below b m n k e a = go (refuses b m (run_for k)) refl
  where
    go : (o : Option Refusal) → refuses b m (run_for k) ≡ o → IfOk (ok_unless o (report (call b (run_for k) m))) (SpentBelow b.book.n m.steps k)
    go (Some why) h = tt
    go None h = λ q.
        let is = run_accepted b m k h in
        let open_still : stands (run b k m).verdict ≡ false = rw is at (not_standing (call b (run_for k) m).verdict q) in
        (rw is (run_used b k m open_still).1, rw (← e) (a.below (rw (e, is) open_still)))

-- what the questions show is true where the standing verdict is
choice_true : (b : Bench) (m : Machine) (v : Verdict) (fit : Bool) (old : Row) → Stands b m v
    → OnOk (done (cond fit (choice_by b.book.n m v) (Err RowLength))) (ShowsFit b.book m.holds (row_or (cond fit (choice_by b.book.n m v) (Err RowLength)) old))
choice_true b m v false old s = tt
choice_true b m working true old s = tt
choice_true b m fits true old s = s
choice_true b m (none_fits r) true old s = tt

named_true : (b : Bench) (m : Machine) (v : Verdict) (fit : Bool) (old : Row) → Stands b m v
    → OnOk (done (cond fit (named_by v) (Err RowLength))) (NamesClash b.book m.holds (row_or (cond fit (named_by v) (Err RowLength)) old))
named_true b m v false old s = tt
named_true b m working true old s = tt
named_true b m fits true old s = tt
named_true b m (none_fits r) true old s = s

pub choice_shows : (b : Bench) (m : Machine) (len : ℕ) (old : Row) → Assured b m
    → OnOk (done (choice_row b.book.n m len)) (ShowsFit b.book m.holds (row_or (choice_row b.book.n m len) old))
choice_shows b m len old a = choice_true b m m.verdict (eqb len b.book.n) old a.verdict

pub named_shows : (b : Bench) (m : Machine) (len : ℕ) (old : Row) → Assured b m
    → OnOk (done (named_row b.book.n m len)) (NamesClash b.book m.holds (row_or (named_row b.book.n m len) old))
named_shows b m len old a = named_true b m m.verdict (eqb len b.book.n) old a.verdict

-- the codes that a question finds are those of its definition
shown_choice : (b : Bench) (m : Machine) (v : Verdict) (n len : ℕ) → shown_codes n (fitting_by (row n m.trail) v) len ≡ cond (eqb len n) (choice_by n m v) (Err RowLength)
shown_choice b m working n len = refl
shown_choice b m fits n len = refl
shown_choice b m (none_fits r) n len = refl

shown_named : (v : Verdict) (n len : ℕ) → shown_codes n (clashing_by v) len ≡ cond (eqb len n) (named_by v) (Err RowLength)
shown_named working n len = refl
shown_named fits n len = refl
shown_named (none_fits r) n len = refl

pub shown_by_choice : (b : Bench) (m : Machine) (len : ℕ) → shown_codes b.book.n (fitting_row b m) len ≡ choice_row b.book.n m len
shown_by_choice b m len = shown_choice b m m.verdict b.book.n len

pub shown_by_named : (b : Bench) (m : Machine) (len : ℕ) → shown_codes b.book.n (clashing_row m) len ≡ named_row b.book.n m len
shown_by_named b m len = shown_named m.verdict b.book.n len

-- three that may be opened together are lawful
pub may_open : (b : Bench) (p : Picks) (s : Shelved) → books_of.Sound b.book → picks_of.Sound p → shelved_of.Sound s → refuses_open b.book.n p.n s.n b.forget ≡ None → Lawful b p s
may_open b p s sb sp ss h = record { book = sb; picker = sp; shelf = ss; same_picker = grind (arith, nat_tests); same_shelf = grind (arith, nat_tests) }

-- a session's search after a call
module _ {B P S : Type 0} {b : books.Ghosts B} {p : pickers.Ghosts P} {s : shelves.Ghosts S} where
  bench_same : (x y : Search B P S b p s) → Kept x y → bench_in y ≡ bench_in x
  bench_same x y k = grind arith

  pub after_call : (x y : Search B P S b p s) (c : Call) → Kept x y → state_in y ≡ call (bench_in x) c (state_in x)
      → ∥ Reached (bench_in x) (state_in x) ∥₁ → ∥ Reached (bench_in y) (state_in y) ∥₁
  after_call x y c k e t = rw (bench_same x y k) (∥∥₁_map t (reached_more (bench_in x) (state_in x) (state_in y) c e))

  pub assured_after : (x y : Search B P S b p s) (c : Call) → Kept x y → state_in y ≡ call (bench_in x) c (state_in x)
      → ∥ Reached (bench_in x) (state_in x) ∥₁ → Assured (bench_in y) (state_in y)
  assured_after x y c k e t = assured (bench_in y) (state_in y) (after_call x y c k e t)

  -- the same over the bench before the call
  pub assured_at : (x y : Search B P S b p s) (c : Call) → Kept x y → state_in y ≡ call (bench_in x) c (state_in x)
      → ∥ Reached (bench_in x) (state_in x) ∥₁ → Assured (bench_in x) (state_in y)
  assured_at x y c k e t = assured (bench_in x) (state_in y) (∥∥₁_map t (reached_more (bench_in x) (state_in x) (state_in y) c e))

  -- a search that was opened under holds is fresh
  pub opened_fresh : (x : Search B P S b p s) (bk : B) (pk : P) (sh : S) (f : Forgetting) (hs : List Mark)
      → refuses_open (b.meaning bk).n (p.meaning pk).n (s.meaning sh).n f ≡ None → is_distinct (b.meaning bk).n hs ≡ true
      → (x.book ≡ bk) × (x.picker ≡ pk) × (x.forget ≡ f) → state_in x ≡ restarted (opened (p.meaning pk) (s.meaning sh)) hs
      → Fresh (bench_in x) (state_in x)
  opened_fresh x bk pk sh f hs none held k e =
      begun (bench_in x) (p.meaning pk) (s.meaning sh) hs (state_in x)
      (may_open (bench_in x) (p.meaning pk) (s.meaning sh) (b.sound x.book) (p.sound pk) (s.sound sh) (rw (k.0, k.2) none)) (rw k.0 held) e
