-- What the invariant promises of a state and of a run, and the promises after every list of calls.
use Rattle.std.proofs.Common.{◌≡◌, ℕ, zero, suc, ◌+◌, ◌<◌, ◌≤◌, true, false, ◌≢◌, List, [], ◌∷◌, ◌++◌, length, replicate, Some, None, Option, refl, inl, inr, arith, subst}
use Rattle.std.specs.List.{list_all}
use Rattle.std.proofs.lemmas.Grind.{common_steps}
use Rattle.std.proofs.lemmas.Option.{gets}
use Rattle.std.proofs.lemmas.Bool.{cases_Bool, cases_eq}
use Rattle.std.proofs.lemmas.Bool.Decides.{nat_tests}
use Rattle.std.proofs.lemmas.List.{length-replicate}
use Rattle.parts.specs.Codes.{is_row, side_of}
use Rattle.parts.specs.Distinct.{is_distinct, is_part, names}
use Rattle.parts.specs.Lists.{at_place}
use Rattle.parts.specs.Marks.{opposite_of}
use Rattle.parts.specs.Rows.{Row, row_marks}
use Rattle.parts.specs.declared.mark.Mark.{Mark}
use Rattle.parts.specs.declared.refusal.Refusal.{Refusal}
use Rattle.parts.specs.declared.side.Side.{Side}
use Rattle.parts.proofs.Among.{all_among, any_among, among_any, contains_among}
use Rattle.parts.proofs.DistinctLaws.{distinct_member, is_distinct_push, released_distinct}
use Rattle.book.specs.Choices.{Takes, Meets, Obeys}
use Rattle.book.specs.Meaning.{Rule}
use Rattle.picker.specs.Meaning as pickers
use Rattle.picker.specs.Meaning.{Picks, is_answered}
use Rattle.shelf.specs.Meaning as shelves
use Rattle.shelf.specs.Meaning.{Shelved, sound_place}
use Rattle.search.specs.declared.entry.Kind.{Kind}
use Rattle.search.specs.declared.entry.Kind.TheVariants.{Held, Picked, Forced}
use Rattle.search.specs.declared.reason.Reason.{Reason}
use Rattle.search.specs.declared.reason.Reason.TheVariants.{Book, Shelf}
use Rattle.search.specs.Bounds.{most_turns, most_steps}
use Rattle.search.specs.Trail.{Trail, row, reason_in, reason_of}
use Rattle.search.specs.Machine.{Press, turn_on, force, settle, ask, stop, none_fits}
use Rattle.search.specs.Machine.{Bench, Machine, lesson, rule_at, Move, look, pushed, turned, fitted, asked, act, step, stands, run, Verdict, working}
use Rattle.search.specs.Calls.{emptied, opened, restarted, Call, hold, release, run_for, refuses, held_on, accepted, call, calls}
use Rattle.search.specs.Law.{Lawful, LessonsFollow, Fresh, Stands, counted, budgets, Promised, is_run, IsOpenPart, PickerAnswers, LessonFits, TurnIsWhole, NothingHidden, NothingIsHidden, SearchKeepsItsPromises, FreshStarts, CallsLeaveTheRest}
use Rattle.search.proofs.Basics.{place_among, all_pass}
use Rattle.search.proofs.Rows.{names_within, marks_among}
use Rattle.search.proofs.Invariant.{Ranged, Follows, Why, Sound, worth, Inv, Final, Counts}
use Rattle.search.proofs.Settled.{within, answer_some, answer_open}
use Rattle.search.proofs.Places.{next_place_free}
use Rattle.search.proofs.Look.{at_of, Looked, look_ok, crossed_reason}
use Rattle.search.proofs.Step.{step_ok, worth_below, final_steps}
use Rattle.search.proofs.Turn.{top, sound_length, Ends}

-- The invariant from call to call: a fresh state has it, and every call keeps it.
-- a lesson is over the parts of its row
lesson_within : (n : ℕ) (o : Option (Option Row)) (R : Rule) → ((r : Row) → o ≡ Some (Some r) → is_row n r ≡ true) → lesson o ≡ Some R → Ranged n R
lesson_within n None R row h y i = grind arith
lesson_within n (Some None) R row h y i = grind arith
lesson_within n (Some (Some r)) R row h y i =
    let e : row_marks r ≡ R = cc in
    grind (arith, row r refl, names_within r y (marks_among r y (rw e i)))

pub fresh_inv : {b : Bench} {m : Machine} → Fresh b m → Inv b m
unfolding worth rule_at
fresh_inv {b} {m} f = record {
  lawful = f.lawful;
  holds = f.holds;
  last = f.last;
  good = good;
  sound = rw f.trail tt;
  counts = rw f.verdict (omega (arith, f.turns, f.steps));
}
  where
    good : (r : Reason) (R : Rule) → rule_at b.book.rules m.shelf.rows r ≡ Some R → Follows (Obeys b.book.rules) R × Ranged b.book.n R
    good (Book i) R h =
        let a = place_among b.book.rules i R h in
        (λ c ob. any_among (Takes c) R (all_among (Meets c) b.book.rules ob R a), within b f.lawful.book R a)
    good (Shelf i) R h = (λ c ob. any_among (Takes c) R (f.lessons i R h c ob), lesson_within b.book.n (at_place m.shelf.rows i) R row h)
      where
        row : (r : Row) → at_place m.shelf.rows i ≡ Some (Some r) → is_row b.book.n r ≡ true
        row r e = rw (← f.lawful.same_shelf) (all_pass (sound_place m.shelf.n) m.shelf.rows f.lawful.shelf.rows_sound (Some r) (place_among m.shelf.rows i (Some r) e))

-- each step counts one
pub act_steps : (b : Bench) (m : Machine) (v : Move) → (act b m v).steps ≡ suc m.steps
unfolding act pushed fitted turned asked
act_steps b m v = grind arith

-- a step and a run keep the invariant
pub step_inv : {b : Bench} {m : Machine} → Inv b m → stands m.verdict ≡ false → Inv b (step b m)
step_inv {b} {m} inv h = step_ok b m inv (grind arith)

pub run_inv : {b : Bench} {m : Machine} → Inv b m → (k : ℕ) → Inv b (run b k m)
unfolding run
run_inv inv zero = inv
run_inv {b} {m} inv (suc k) =
    elim (cases_Bool (stands m.verdict)) [
      | inl e ↦ rw (e, run) inv
      | inr e ↦ rw (e, run) (run_inv {m = step b m} (step_inv inv e) k)
    ]

-- a run that leaves no verdict began with none, and has used its budget
pub run_used : (b : Bench) (k : ℕ) (m : Machine) → stands (run b k m).verdict ≡ false → (stands m.verdict ≡ false) × ((run b k m).steps ≡ m.steps + k)
unfolding run step
run_used b zero m h = (h, omega arith)
run_used b (suc k) m h = grind (arith, run_used b k (step b m), act_steps b m (look b m))

-- lessons follow from the book
pub inv_lessons : {b : Bench} {m : Machine} → Inv b m → LessonsFollow b m.shelf.rows
unfolding rule_at
inv_lessons inv i r h c ob = let (y, j, t) = (inv.good (Shelf i) r h).0 c ob in among_any (Takes c) r y j t

-- other holds start the search again
pub restarted_fresh : {b : Bench} {m : Machine} → Inv b m → (hs : List Mark) → is_distinct b.book.n hs ≡ true → Fresh b (restarted m hs)
unfolding restarted
restarted_fresh {b} {m} inv hs dis = record {
  lawful = inv.lawful;
  holds = dis;
  lessons = inv_lessons inv;
  last = inv.last;
  trail = refl;
  steps = refl;
  turns = refl;
  verdict = refl;
}

-- the holds with a new one
held_distinct : (n : ℕ) (hs : List Mark) (p : ℕ) (v : Option Side) → is_distinct n hs ≡ true → is_part n p ≡ true → names hs p ≡ false → is_distinct n (hs ++ held_on p v) ≡ true
held_distinct n hs p v dis part free = grind (arith, nat_tests, common_steps, is_distinct_push n hs)

-- an accepted hold or release gives a fresh state, and every accepted call keeps the invariant
pub accepted_fresh : {b : Bench} {m : Machine} → Inv b m → (c : Call) → is_run c ≡ false → refuses b m c ≡ None → Fresh b (accepted b c m)
unfolding refuses accepted
accepted_fresh {b} {m} inv (hold p s) r z = restarted_fresh inv _ (held_distinct b.book.n m.holds p (side_of s) inv.holds (grind arith) (grind arith))
accepted_fresh {b} {m} inv (release p) r z = restarted_fresh inv _ (released_distinct b.book.n p m.holds inv.holds).0
accepted_fresh inv (run_for k) r z = absurd (grind arith)

accepted_inv : {b : Bench} {m : Machine} → Inv b m → (c : Call) → refuses b m c ≡ None → Inv b (accepted b c m)
unfolding accepted
accepted_inv inv (run_for k) z = run_inv inv k
accepted_inv inv c z = fresh_inv (accepted_fresh inv c refl z)

-- every call keeps the invariant, refused or accepted
pub call_inv : {b : Bench} {m : Machine} → Inv b m → (c : Call) → Inv b (call b c m)
unfolding call
call_inv {b} {m} inv c = grind (arith, accepted_inv inv c)

pub calls_inv : {b : Bench} {m : Machine} → Inv b m → (cs : List Call) → Inv b (calls b cs m)
unfolding calls
calls_inv inv [] = inv
calls_inv {b} {m} inv (c ∷ cs) = calls_inv {m = call b c m} (call_inv inv c) cs

-- one call more
pub calls_more : (b : Bench) (cs : List Call) (c : Call) (m : Machine) → calls b (cs ++ (c ∷ [])) m ≡ call b c (calls b cs m)
unfolding calls
calls_more b [] c m = refl
calls_more b (d ∷ cs) c m = calls_more b cs c (call b d m)

pub budgets_more : (b : Bench) (cs : List Call) (c : Call) (m : Machine) (g : ℕ) → budgets b (cs ++ (c ∷ [])) m g ≡ counted c (refuses b (calls b cs m) c) (budgets b cs m g)
unfolding calls budgets
budgets_more b [] c m g = refl
budgets_more b (d ∷ cs) c m g = budgets_more b cs c (call b d m) (counted d (refuses b m d) g)

-- each promise of a state, by its verdict
by_verdict : (b : Bench) (m : Machine) → Inv b m → (v : Verdict) → Counts b m v → Stands b m v × Final b m.turns m.steps × (stands v ≡ false → m.steps < most_steps b.book.n)
by_verdict b m inv working w =
    let n = b.book.n in
    let at : Reason → Option Rule = rule_at b.book.rules m.shelf.rows in
    let few : m.turns < most_turns n = omega (arith, w.0, worth_below n m.holds at m.trail inv.sound) in
    let below = final_steps n m.turns m.steps (length m.trail) few w.1 (sound_length n m.holds at m.trail inv.sound) in
    grind arith
by_verdict b m inv v w = grind arith

-- while no verdict stands, steps are below the bound, and the shelf stays sound
pub steps_below : {b : Bench} {m : Machine} → Fresh b m → (cs : List Call) → stands (calls b cs m).verdict ≡ false → (calls b cs m).steps < most_steps b.book.n
steps_below {b} {m} f cs h = let inv = calls_inv (fresh_inv f) cs in (by_verdict b (calls b cs m) inv (calls b cs m).verdict inv.counts).2 h

pub fresh_shelf : {b : Bench} {m : Machine} → Fresh b m → (cs : List Call) → shelves.Sound (calls b cs m).shelf
fresh_shelf f cs = (calls_inv (fresh_inv f) cs).lawful.shelf

-- while no verdict stands, all that was given is used
abbrev pub Used : Machine → ℕ → Type 0
Used m given = stands m.verdict ≡ false → given ≤ m.steps

-- a call counts what it is given
pub call_used : (b : Bench) (c : Call) (m : Machine) (g : ℕ) → Used m g → Used (call b c m) (counted c (refuses b m c) g)
unfolding call accepted restarted
call_used b c m g used = grind (arith, run_used b)

calls_used : (b : Bench) (cs : List Call) (m : Machine) (g : ℕ) → Used m g → Used (calls b cs m) (budgets b cs m g)
unfolding calls budgets
calls_used b [] m g used = used
calls_used b (c ∷ cs) m g used = calls_used b cs (call b c m) (counted c (refuses b m c) g) (call_used b c m g used)

-- all five promises of a state
pub inv_promised : {b : Bench} {m : Machine} → Inv b m → (given : ℕ) → Used m given → Promised b m given
inv_promised {b} {m} inv given used =
    let (shown, final, below) = by_verdict b m inv m.verdict inv.counts in
    record { lessons = inv_lessons inv; verdict = shown; turns = final.0; steps = final.1; comes = λ h. grind (arith, used, below) }

-- THE LAW
pub search_keeps_its_promises : SearchKeepsItsPromises
search_keeps_its_promises b m cs fresh = inv_promised (calls_inv (fresh_inv fresh) cs) (budgets b cs m 0) (calls_used b cs m 0 (λ h. omega arith))

-- an opening is a fresh state, and so is each state after an accepted hold or release
none_sound : (n k : ℕ) → list_all (sound_place n) (replicate k None) ≡ true
none_sound n zero = refl
none_sound n (suc k) = grind (arith, none_sound n k)

opened_fresh : {b : Bench} (p : Picks) (s : Shelved) → Lawful b p s → Fresh b (opened p s)
unfolding opened
opened_fresh {b} p s law =
    let k : ℕ = length s.rows in
    let len = length-replicate {A = Option Row} k None in
    let sound : shelves.Sound (emptied s) = record { some = law.shelf.some; few = law.shelf.few; enough = rw len law.shelf.enough; most = rw len law.shelf.most; rows_sound = none_sound s.n k } in
    record {
      lawful = record { book = law.book; picker = law.picker; shelf = sound; same_picker = law.same_picker; same_shelf = law.same_shelf };
      holds = refl;
      lessons = λ i r h. absurd (grind (arith, common_steps, gets));
      last = omega arith;
      trail = refl;
      steps = refl;
      turns = refl;
      verdict = refl;
    }

pub fresh_starts : FreshStarts
fresh_starts b = record { opening = opened_fresh; restart = λ m cs hs f dis. restarted_fresh (calls_inv (fresh_inv f) cs) hs dis }

-- What a call leaves alone.
pub refused_same : (b : Bench) (m : Machine) (c : Call) (why : Refusal) → refuses b m c ≡ Some why → call b c m ≡ m
unfolding call
refused_same b m c why e = grind arith

-- a run under a standing verdict takes no step
pub run_stood_same : (b : Bench) (m : Machine) (k : ℕ) → stands m.verdict ≡ true → run b k m ≡ m
unfolding run
run_stood_same b m zero e = grind arith
run_stood_same b m (suc k) e = grind arith

pub calls_leave_the_rest : CallsLeaveTheRest
unfolding call accepted restarted
calls_leave_the_rest b m c = record { refused = refused_same b m c; lessons = λ e. grind arith; stands = λ r e. grind (arith, run_stood_same b m) }

-- No branch that stands for what cannot be is ever taken.
module _ {b : Bench} {m : Machine} (inv : Inv b m) where
  -- each reason on a trail is a rule that is there
  reason_there : (n : ℕ) (hs : List Mark) (at : Reason → Option Rule) (t : Trail) → Sound n hs at t → (p : ℕ) (r : Reason) → reason_of t p ≡ Some r
      → (R : Rule) × (at r ≡ Some R)
  unfolding reason_of
  reason_there n hs at [] s p r h = absurd (grind arith)
  reason_there n hs at (e ∷ t) s p r h =
      elim (cases_eq e.mark.part p) [
        | inl q ↦ why_rule e.kind s.2 (grind arith)
        | inr ne ↦ reason_there n hs at t s.3 p r (grind arith)
      ]
    where
      why_rule : (k : Kind) → Why hs at k e.mark t → reason_in k ≡ Some r → (R : Rule) × (at r ≡ Some R)
      why_rule Held w is = absurd (grind arith)
      why_rule Picked w is = absurd (grind arith)
      why_rule (Forced q) (R, there, own, others) is = (R, cc)

  some_reason : (o : Option Reason) → o ≢ None → (r : Reason) × (o ≡ Some r)
  some_reason None n = absurd (n refl)
  some_reason (Some r) n = (r, refl)

  module _ (w : m.verdict ≡ working) where
    looked : Looked b m (look b m)
    looked = look_ok b m inv.lawful.book inv.holds inv.good inv.sound

    asked_open : look b m ≡ ask → (x : Mark) × PickerAnswers b m x
    asked_open e =
        let l : Looked b m ask = subst (Looked b m) e looked in
        let yes : is_answered m.picker.n (row b.book.n m.trail) ≡ true = rw inv.lawful.same_picker (answer_some b.book.n m.trail l.1) in
        let x : Mark = m.picker.choose (row b.book.n m.trail) in
        let f : pickers.Free b.book.n (row b.book.n m.trail) x.part = rw inv.lawful.same_picker at (inv.lawful.picker.frees (row b.book.n m.trail) yes) in
        (x, record { answer = rw yes refl; free = record { first = f.first; last = f.last; vacant = answer_open b.book.n m.trail x.part f } })

    fits_there : (x : Mark) (c : Row) (t : Trail) → Ends b.book.n (Obeys b.book.rules) m.holds (at_of b m) (top b.book.n m.trail) (stop x c t) → (i : ℕ) × LessonFits b m x c t i
    fits_there x c t e =
        let below = sound_length b.book.n m.holds (at_of b m) (record { mark = x; kind = Picked } ∷ t) (e.vacant, e.range, e.kept, e.sound) in
        let (i, is, free) = next_place_free b.book.n m.holds b.book.rules m.shelf.rows m.last t e.sound below (omega (arith, inv.lawful.shelf.enough, inv.lawful.same_shelf)) inv.last in
        (i, record { place = is; write = grind (arith, nat_tests, inv.lawful.same_shelf); opposite = record { first = e.range.0; last = e.range.1; vacant = e.vacant } })

    turn_whole : (r : Reason) → look b m ≡ turn_on r → (R : Rule) × TurnIsWhole b m r R
    turn_whole r e =
        let (R, is, apart, (ends, kept)) : Looked b m (turn_on r) = subst (Looked b m) e looked in
        (R, record { rule = is; apart = λ y i j. apart y (contains_among R y i) (contains_among R (opposite_of y) j); marks = kept; stops = λ x c t q. fits_there x c t (subst (Ends b.book.n (Obeys b.book.rules) m.holds (at_of b m) (top b.book.n m.trail)) q ends) })

    force_open : (p : Press) → look b m ≡ force p → IsOpenPart b m.trail p.mark.part
    force_open p e = let l : Looked b m (force p) = subst (Looked b m) e looked in record { first = l.1.0; last = l.1.1; vacant = l.0 }

    settle_open : (h : Mark) → look b m ≡ settle h → IsOpenPart b m.trail h.part
    settle_open h e =
        let l : Looked b m (settle h) = subst (Looked b m) e looked in
        let d = distinct_member b.book.n m.holds h inv.holds l.0 in
        record { first = d.0; last = d.1; vacant = l.1 }

  bottom_empty : (r : Row) → m.verdict ≡ none_fits r → m.trail ≡ []
  bottom_empty r e = let c : Counts b m (none_fits r) = subst (Counts b m) e inv.counts in c.2

  pub inv_hidden : NothingHidden b m
  inv_hidden = record {
    bottom = bottom_empty;
    holds = inv.holds;
    last = inv.last;
    parts = λ r R is y i. (inv.good r R is).1 y (contains_among R y i);
    reasons = reason_there b.book.n m.holds (at_of b m) m.trail inv.sound;
    crossed = λ h i f.
        some_reason (reason_of m.trail h.part)
        (crossed_reason b.book.n (Obeys b.book.rules) m.holds (at_of b m) inv.holds m.trail inv.sound h (contains_among m.holds h i) f);
    ask = asked_open;
    turn_on = λ r w e. turn_whole w r e;
    force = λ p w e. force_open w p e;
    settle = λ h w e. settle_open w h e;
  }

pub hidden_none : {b : Bench} {m : Machine} → Fresh b m → (cs : List Call) → NothingHidden b (calls b cs m)
hidden_none f cs = inv_hidden (calls_inv (fresh_inv f) cs)

pub nothing_is_hidden : NothingIsHidden
nothing_is_hidden b m cs f = hidden_none f cs
