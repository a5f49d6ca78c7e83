-- A step keeps the invariant.
use Rattle.std.proofs.Common.{◌≡◌, ℕ, [], ◌∷◌, length, replicate, inl, inr, arith, suc, ◌+◌, ◌-◌, ◌*◌, ◌<◌, ◌≤◌, Bool, true, List, Some, None, Option, subst, pow_pos}
use Rattle.std.specs.List.{filter, Contains}
use Rattle.std.proofs.lemmas.List.{length-replicate}
use Rattle.parts.specs.Codes.{is_row}
use Rattle.parts.specs.Distinct.{is_distinct}
use Rattle.parts.specs.Marks.{opposite_of}
use Rattle.parts.specs.Rows.{Row, row_marks, names_mark}
use Rattle.parts.specs.declared.mark.Mark.{Mark}
use Rattle.parts.proofs.Among.{Among, among_at, among_all, all_among, among_any}
use Rattle.parts.proofs.DistinctLaws.{distinct_member, distinct_once}
use Rattle.book.specs.Choices.{Choice, Takes, Meets, Obeys, Keeps, ShowsFit, NamesClash, shown}
use Rattle.book.specs.Meaning.{Rule}
use Rattle.picker.specs.Meaning as pickers
use Rattle.picker.specs.Meaning.{is_answered}
use Rattle.shelf.specs.Meaning.{with_place, row_written}
use Rattle.search.specs.declared.entry.Kind.{Kind}
use Rattle.search.specs.declared.entry.Kind.TheVariants.{Held, Picked, Forced}
use Rattle.search.specs.declared.reason.Reason.{Reason}
use Rattle.search.specs.declared.reason.Reason.TheVariants.{Shelf}
use Rattle.search.specs.Bounds.{most_turns, most_steps}
use Rattle.search.specs.Trail.{Trail, settled, row}
use Rattle.search.specs.Machine.{named_holds, Bench, working, Machine, rule_at, Move, turn_on, force, settle, fit, ask, look, Outcome, bottom, stop, next_place, swept, pushed, turned, fitted, asked, act, step}
use Rattle.search.specs.Law.{Lawful}
use Rattle.search.proofs.Basics.{twice_opposite, filter_among, among_filter}
use Rattle.search.proofs.Rows.{Names, Within, true_names, enter_length, enter_codes, enter_comes, enter_from, empty_row, empty_codes, names_within, among_marks, marks_among}
use Rattle.search.proofs.Invariant.{Ranged, Follows, Kept, Why, Sound, worth, Counts, Inv}
use Rattle.search.proofs.Settled.{settled_row, shown_settled, within, answer_some, answer_open}
use Rattle.search.proofs.Turn.{top, top_falls, sound_length, Ends}
use Rattle.search.proofs.Places.{Free, next_place_free, sound_move, after, after_new, after_old, after_rule, after_length, after_sound}
use Rattle.search.proofs.Look.{at_of, Looked, look_ok}

-- The holds that a verdict names: a row of n codes, only holds, and each hold whose opposite is in the working rule.
module _ (n : ℕ) (c : Row) (hs : List Mark) where
  abbrev is_named : Mark → Bool
  is_named h = names_mark c (opposite_of h)

  pub named_codes : is_row n (named_holds n c hs) ≡ true
  unfolding named_holds
  named_codes = grind (arith, enter_length (replicate n 0) (filter is_named hs), length-replicate {A = ℕ} n 0, enter_codes (replicate n 0) (filter is_named hs) (empty_codes n))

  module _ (dis : is_distinct n hs ≡ true) where
    named_within : Within (replicate n 0) (filter is_named hs)
    named_within y i = grind (arith, filter_among is_named hs y i, distinct_member n hs y dis, length-replicate {A = ℕ} n 0)

    -- each named mark is a hold
    pub named_held : (h : Mark) → Names (named_holds n c hs) h → Among h hs
    unfolding named_holds
    named_held h i = grind (arith, enter_from (replicate n 0) (filter is_named hs) h named_within i, empty_row n h, filter_among is_named hs h)

    -- and a hold whose opposite is in the working rule is named
    pub held_named : (h : Mark) → Among h hs → Names c (opposite_of h) → Names (named_holds n c hs) h
    unfolding named_holds
    held_named h i j =
        let own = among_filter is_named hs h i (true_names c (opposite_of h) j) in
        enter_comes (replicate n 0) (filter is_named hs) h named_within own
        (λ k. grind (arith, filter_among is_named hs (opposite_of h) k, distinct_once n hs h (opposite_of h) dis i))

-- the worth of a trail stays below 2 ^ n
pub top_most : (n : ℕ) (hs : Rule) (at : Reason → Option Rule) (t : Trail) → Sound n hs at t → top n t ≤ most_turns n
unfolding worth
top_most n hs at [] s = grind arith
top_most n hs at (e ∷ t) s = omega (arith, top_falls n e t (sound_length n hs at (e ∷ t) s), top_most n hs at t s.3)

-- so there are fewer turns than that
pub worth_below : (n : ℕ) (hs : Rule) (at : Reason → Option Rule) (t : Trail) → Sound n hs at t → worth n t < most_turns n
worth_below n hs at t s = omega (arith, top_most n hs at t s, pow_pos (n - length t))

-- the last step of a search stays within the bound
pub final_steps : (n turns steps l : ℕ) → turns < most_turns n → steps ≤ turns * (n + 1) + l → l ≤ n → suc steps ≤ most_steps n
final_steps n turns steps l a b c = grind arith

module _ (b : Bench) (m : Machine) (inv : Inv b m) (w : m.verdict ≡ working) where
  -- the parts, rules and holds in short
  abbrev n : ℕ
  n = b.book.n

  abbrev Ob : Choice → Type 0
  Ob = Obeys b.book.rules

  abbrev hs : List Mark
  hs = m.holds

  abbrev law : Lawful b m.picker m.shelf
  law = inv.lawful

  -- the counts where no verdict stands
  counts : Counts b m working
  counts = subst (Counts b m) w inv.counts

  short : length m.trail ≤ n
  short = sound_length n hs (at_of b m) m.trail inv.sound

  few : m.turns < most_turns n
  few = omega (arith, counts.0, worth_below n hs (at_of b m) m.trail inv.sound)

  last_step : suc m.steps ≤ most_steps n
  last_step = final_steps n m.turns m.steps (length m.trail) few counts.1 short

  -- a mark is settled
  push_ok : (x : Mark) (k : Kind) → settled m.trail x.part ≡ None → (1 ≤ x.part) × (x.part ≤ n) → Why hs (at_of b m) k x m.trail
      → Inv b (pushed m x k)
  unfolding pushed worth
  push_ok x k op range why = rw w (grind arith)

  -- a choice fits
  fit_ok : Looked b m fit → Inv b (fitted m)
  unfolding fitted
  fit_ok (kept, met, full) =
      let c : Row = row n m.trail in
      let meets : ((R : Rule) → Among R b.book.rules → Meets (shown c) R) =
      λ R i.
      let (y, j, v) = met R i in
      among_any (Takes (shown c)) R y j (grind (arith, within b law.book R i y j, shown_settled n m.trail y.part y.side)) in
      let takes : ((h : Mark) → Among h hs → Takes (shown c) h) =
      λ h i. grind (arith, distinct_member n hs h inv.holds i, shown_settled n m.trail h.part h.side, kept h i) in
      let shows : ShowsFit b.book hs c =
      record { long = settled_row n m.trail; full = full; obeys = among_all (Meets (shown c)) b.book.rules meets; keeps = among_all (Takes (shown c)) hs takes } in
      grind (arith, few, last_step)

  -- the place is one of the shelf's and the working rule is a row, so the shelf takes it
  writes : (i : ℕ) (c : Row) → 1 ≤ i → i ≤ length m.shelf.rows → is_row n c ≡ true → row_written m.shelf i c ≡ with_place m.shelf i (Some c)
  writes i c l u row = grind (arith, law.same_shelf)

  -- a turn has stopped at a pick, and its working rule is written in a free place
  stop_ok : (x : Mark) (c : Row) (t : Trail) → Ends n Ob hs (at_of b m) (top n m.trail) (stop x c t) → (i : ℕ) → next_place m.shelf.rows m.last t ≡ Some i
      → Free m.shelf.rows t i → Inv b (turned b m (stop x c t))
  unfolding turned swept worth
  stop_ok x c t e i is free =
      let z : Mark = opposite_of x in
      let now : Row = row n (record { mark = z; kind = Forced (Shelf i) } ∷ t) in
      let at' : Reason → Option Rule = rule_at b.book.rules (after b.forget now b.book.rules m.shelf.rows t z i c) in
      let len = after_length b.forget now b.book.rules m.shelf.rows t z i c in
      let is_c : is_row n c ≡ true = grind arith in
      let codes = after_sound b.forget now b.book.rules m.shelf.rows t z i c m.shelf.n law.shelf.rows_sound (rw law.same_shelf is_c) in
      let good : ((r : Reason) (R : Rule) → at' r ≡ Some R → Follows Ob R × Ranged n R) =
      λ r R is.
      elim (after_rule b.forget now b.book.rules m.shelf.rows t z i c free r R is) [
        | inl q ↦ inv.good r R q
        | inr q ↦ rw (← q) (
          λ f ob. let (y, j, ty) = e.fine.0 f ob in (y, among_marks c y j, ty),
          λ y j. grind (arith, names_within c y (marks_among c y j)),
        )
      ] in
      let why : Why hs at' (Forced (Shelf i)) z t =
      (row_marks c, after_new b.forget now b.book.rules m.shelf.rows t z i c free, among_marks c z e.own, λ y j. e.others y (marks_among c y j)) in
      let older = sound_move n hs (at_of b m) at' t (after_old b.forget now b.book.rules m.shelf.rows t z i c free) e.sound in
      rw (is, writes i c free.0 free.1 is_c, w) (grind (arith, few, short, counts, pow_pos (n - length m.trail)))

  -- a turn has ended
  turned_ok : (o : Outcome) → Ends n Ob hs (at_of b m) (top n m.trail) o → Inv b (turned b m o)
  unfolding turned swept worth
  turned_ok (bottom c) e =
      let r : Row = named_holds n c hs in
      let none : ((f : Choice) → Ob f → Keeps (row_marks r) f → ⊥) =
      λ f ob keeps.
      let (y, i, ty) = e.0 f ob in
      let named = held_named n c hs inv.holds (opposite_of y) (e.1 y i) in
      grind (arith, named, among_marks r (opposite_of y), all_among (Takes f) (row_marks r) keeps (opposite_of y), twice_opposite y) in
      let held : ((h : Mark) → Among h (row_marks r) → Contains hs h) = λ h i. among_at hs h (named_held n c hs inv.holds h (marks_among r h i)) in
      let clash : NamesClash b.book hs r = record { long = named_codes n c hs; held = among_all (Contains hs) (row_marks r) held; none = none } in
      grind (arith, few, last_step)
  turned_ok (stop x c t) e =
      let below = sound_length n hs (at_of b m) (record { mark = x; kind = Picked } ∷ t) (e.vacant, e.range, e.kept, e.sound) in
      let (i, is, free) = next_place_free n hs b.book.rules m.shelf.rows m.last t e.sound below (omega (arith, law.shelf.enough, law.same_shelf)) inv.last in
      stop_ok x c t e i is free

  -- the picker answers
  ask_ok : (x : Mark) → pickers.Free n (row n m.trail) x.part → Kept hs m.trail → Inv b (pushed m x Picked)
  ask_ok x f kept = push_ok x Picked (answer_open n m.trail x.part f) (f.first, f.last) kept

  -- each of the moves
  act_ok : (v : Move) → Looked b m v → Inv b (act b m v)
  unfolding act asked
  act_ok (turn_on r) (R, is, apart, l) = rw is (turned_ok _ l.0)
  act_ok (force p) l = push_ok p.mark (Forced p.by) l.0 l.1 l.2
  act_ok (settle h) l = push_ok h Held l.1 (distinct_member n hs h inv.holds l.0) l.0
  act_ok fit l = fit_ok l
  act_ok ask l =
      let yes : is_answered m.picker.n (row n m.trail) ≡ true = rw law.same_picker (answer_some n m.trail l.1) in
      rw yes (ask_ok (m.picker.choose (row n m.trail)) (rw law.same_picker at (law.picker.frees (row n m.trail) yes)) l.0)

  -- a step keeps the invariant
  pub step_ok : Inv b (step b m)
  unfolding step
  step_ok = act_ok (look b m) (look_ok b m law.book inv.holds inv.good inv.sound)
