-- What holds at each of the six cases of a step.
use Rattle.std.proofs.Common.{◌≡◌, ℕ, suc, ◌≤◌, Bool, true, false, ◌≢◌, ◌⊎◌, List, [], ◌∷◌, map, length, replicate, Some, None, Option, refl, subst, inl, inr, le_trans, arith}
use Rattle.std.specs.List.{find, range_with_len}
use Rattle.std.specs.Option.{option_and_then}
use Rattle.std.proofs.lemmas.Bool.{cases_eq}
use Rattle.std.proofs.lemmas.List.{length-replicate}
use Rattle.parts.specs.Distinct.{is_distinct}
use Rattle.parts.specs.Lists.{at_place}
use Rattle.parts.specs.Marks.{opposite_of}
use Rattle.parts.specs.Rows.{Row, names_mark, is_full}
use Rattle.parts.specs.declared.mark.Mark.{Mark}
use Rattle.parts.proofs.Among.{Among, among_left, among_map}
use Rattle.parts.proofs.DistinctLaws.{distinct_member, distinct_once}
use Rattle.book.specs.Choices.{Choice, Obeys}
use Rattle.book.specs.Meaning as books
use Rattle.book.specs.Meaning.{Rule}
use Rattle.search.specs.declared.entry.Entry.{Entry}
use Rattle.search.specs.declared.entry.Kind.{Kind}
use Rattle.search.specs.declared.entry.Kind.TheVariants.{Forced}
use Rattle.search.specs.declared.reason.Reason.{Reason}
use Rattle.search.specs.declared.reason.Reason.TheVariants.{Book, Shelf}
use Rattle.search.specs.Trail.{Trail, settled, row, reason_in, reason_of, truth, is_crossed, says_open, State, broken, pressing, quiet, enter}
use Rattle.search.specs.Machine.{Bench, Places, Machine, rule_at, state_of, reasons, is_broken, is_pressing, press_by, worked}
use Rattle.search.specs.Machine.{Move, turn_on, force, settle, fit, ask, choose, look, turn}
use Rattle.search.specs.Law.{NoMarkLost}
use Rattle.search.proofs.Basics.{twice_opposite, among_range, find_some, find_none, place_within, among_place}
use Rattle.search.proofs.Rows.{Names, Within, not_names, enter_length, enter_codes, enter_comes, enter_from, empty_row, empty_codes}
use Rattle.search.proofs.Invariant.{Failed, Ranged, Kept, Why, Sound}
use Rattle.search.proofs.Settled.{row_settled, within}
use Rattle.search.proofs.Turn.{top, top_falls, sound_length, Good, Fine, Ends, turn_ok}
use Rattle.search.proofs.States.{truth_shows, Says, state_says}

-- a rule that names no two opposite marks
abbrev pub Apart : Rule → Type 0
Apart R = (y : Mark) → Among y R → Among (opposite_of y) R → ⊥

-- an entry whose opposite is not in the working rule is passed
turn_pass : (at : Reason → Option Rule) (c : Row) (e : Entry) (t : Trail) → names_mark c (opposite_of e.mark) ≡ false → turn at c (e ∷ t) ≡ turn at c t
unfolding turn
turn_pass at c e t h = grind arith

-- and so no mark is lost on it
pass_keeps : (at : Reason → Option Rule) (c : Row) (e : Entry) (t : Trail) (v : Bool) → v ≡ false → NoMarkLost at c t → NoMarkLost at (worked v e.kind e.mark.part c at) t
pass_keeps at c e t true h k = absurd (cc)
pass_keeps at c e t false h k = k

module _ (n : ℕ) (Ob : Choice → Type 0) (hs : Rule) (at : Reason → Option Rule) where
  passed : (w : ℕ) (c : Row) (e : Entry) (t : Trail) → names_mark c (opposite_of e.mark) ≡ false
      → Ends n Ob hs at w (turn at c t) × NoMarkLost at c t → Ends n Ob hs at w (turn at c (e ∷ t)) × NoMarkLost at c (e ∷ t)
  unfolding NoMarkLost
  passed w c e t h (ends, kept) =
      (rw (turn_pass at c e t h) ends, (λ r k named. absurd (cc), λ no. pass_keeps at c e t (names_mark c (opposite_of e.mark)) h kept))

  -- a part that is settled against its hold was forced
  pub crossed_reason : is_distinct n hs ≡ true → (t : Trail) → Sound n hs at t → (h : Mark) → Among h hs → Failed t h → reason_of t h.part ≢ None
  unfolding settled reason_of
  crossed_reason dis [] s h i f = grind arith
  crossed_reason dis (e ∷ t) s h i f = grind (arith, distinct_once n hs e.mark h, crossed_reason dis t s.3 h i)

  why_facts : (k : Kind) (x : Mark) (t : Trail) (r : Reason) → Why hs at k x t → reason_in k ≡ Some r → (R : Rule) × (at r ≡ Some R) × ((y : Mark) → Among y R → (y ≡ x) ⊎ Failed t y)
  why_facts k x t r w h = grind arith

  -- the other marks of a forced part's reason are false
  reason_facts : (t : Trail) → Sound n hs at t → (x : Mark) (r : Reason) → reason_of t x.part ≡ Some r → settled t x.part ≡ Some x.side
      → (R : Rule) × (at r ≡ Some R) × ((y : Mark) → Among y R → (y ≡ x) ⊎ Failed t y) × (Among (opposite_of x) R → ⊥)
  unfolding settled reason_of
  reason_facts [] s x r h v = grind arith
  reason_facts (e ∷ t) s x r h v =
      elim (cases_eq e.mark.part x.part) [
        | inl q ↦ let (R, is, others) = why_facts e.kind e.mark t r s.2 (grind arith) in (R, is, λ y i. grind (arith, others y i), λ i. grind (arith, others (opposite_of x) i))
        | inr ne ↦ let (R, is, others, lone) = reason_facts t s.3 x r (grind arith) (grind arith) in (R, is, λ y i. grind (arith, others y i), lone)
      ]

  -- a turn on the reason of a part that is settled against its hold
  cross_turn : ((r : Reason) (R : Rule) → at r ≡ Some R → Good n Ob hs at R) → (R : Rule) (c : Row) → ((y : Mark) → Names c y → Among y R) → Fine n Ob hs at c
      → (r : Reason) (x : Mark) → at r ≡ Some R → Among (opposite_of x) hs
      → (t : Trail) (w : ℕ) → w ≤ top n t → Sound n hs at t → reason_of t x.part ≡ Some r → settled t x.part ≡ Some x.side
      → Ends n Ob hs at w (turn at c t) × NoMarkLost at c t
  unfolding settled reason_of NoMarkLost
  cross_turn ok R c sub fine r x is held_x [] w l s h v = grind arith
  cross_turn ok R c sub fine r x is held_x (e ∷ t) w l s h v =
      let l' = le_trans l (top_falls n e t (sound_length n hs at (e ∷ t) s)) in
      elim (cases_eq e.mark.part x.part) [
        | inl q ↦
            let (Q, isQ, others) = why_facts e.kind e.mark t r s.2 (grind arith) in
            let gone = not_names c (opposite_of e.mark) (λ i. grind (arith, sub (opposite_of e.mark) i, others (opposite_of e.mark))) in
            passed w c e t gone (turn_ok n Ob hs at ok c t w l' s.3 (λ y i. grind (arith, sub y i, others y)) fine)
        | inr ne ↦
            let (Q, isQ, others, lone) = reason_facts t s.3 x r (grind arith) (grind arith) in
            let gone = not_names c (opposite_of e.mark) (λ i. grind (arith, sub (opposite_of e.mark) i, others (opposite_of e.mark))) in
            passed w c e t gone (cross_turn ok R c sub fine r x is held_x t w l' s.3 (grind arith) (grind arith))
      ]

  -- the working rule at the start of a turn
  start : Rule → Row
  start R = enter (replicate n 0) R

  wide : (R : Rule) → Ranged n R → Within (replicate n 0) R
  wide R range y i = grind (arith, range y i, length-replicate {A = ℕ} n 0)

  start_names : (R : Rule) → Ranged n R → (y : Mark) → Names (start R) y → Among y R
  unfolding start
  start_names R range y h = grind (arith, enter_from (replicate n 0) R y (wide R range) h, empty_row n y)

  start_fine : (R : Rule) → Good n Ob hs at R → Apart R → Fine n Ob hs at (start R)
  unfolding start
  start_fine R (fol, range) apart = (
    λ f ob. let (y, i, ty) = fol f ob in (y, enter_comes (replicate n 0) R y (wide R range) i (apart y i), ty),
    grind (arith, enter_length (replicate n 0) R, length-replicate {A = ℕ} n 0),
    enter_codes (replicate n 0) R (empty_codes n),
  )

-- the state of what stands at a reason
at_state : (n : ℕ) (t : Trail) (o : Option Rule) (s : State) → ((R : Rule) → o ≡ Some R → Ranged n R) → state_of (row n t) o ≡ s → s ≢ quiet
    → (R : Rule) × (o ≡ Some R) × Says t R s
at_state n t None s w h e = grind arith
at_state n t (Some R) s w h e = (R, refl, subst (Says t R) h (state_says n t R (w R refl)))

-- each rule of the book is among the reasons
book_among : (rs : List Rule) (s : Places) (i : ℕ) (R : Rule) → at_place rs i ≡ Some R → Among (Book i) (reasons rs s)
unfolding reasons
book_among rs s i R h =
    let here = among_map Book (range_with_len 1 (length rs)) i (grind (arith, place_within rs i R h, among_range 1 (length rs) i)) in
    among_left (map Book (range_with_len 1 (length rs))) (map Shelf (range_with_len 1 (length s))) (Book i) here

module _ (b : Bench) (m : Machine) where
  -- the bench and the state in short: parts, rules, holds, trail, and what stands at a reason
  abbrev n : ℕ
  n = b.book.n

  abbrev Ob : Choice → Type 0
  Ob = Obeys b.book.rules

  abbrev hs : List Mark
  hs = m.holds

  abbrev t : Trail
  t = m.trail

  abbrev pub at_of : Reason → Option Rule
  at_of = rule_at b.book.rules m.shelf.rows

  -- each rule of the book has a mark that is true under the trail
  abbrev pub Met : Type 0
  Met = (R : Rule) → Among R b.book.rules → (y : Mark) × Among y R × (settled t y.part ≡ Some y.side)

  -- what holds where a step does this
  abbrev pub Looked : Move → Type 0
  Looked (turn_on r) = (R : Rule) × (at_of r ≡ Some R) × Apart R × (Ends n Ob hs at_of (top n t) (turn at_of (enter (replicate n 0) R) t) × NoMarkLost at_of (enter (replicate n 0) R) t)
  Looked (force p) =
      (settled t p.mark.part ≡ None)
      × ((1 ≤ p.mark.part) × (p.mark.part ≤ n))
      × Why hs at_of (Forced p.by) p.mark t
  Looked (settle h) = Among h hs × (settled t h.part ≡ None)
  Looked fit = Kept hs t × Met × (is_full (row n t) ≡ true)
  Looked ask = Kept hs t × (is_full (row n t) ≡ false)

  module _ (law : books.Sound b.book) (dis : is_distinct n hs ≡ true) (ok : (r : Reason) (R : Rule) → at_of r ≡ Some R → Good n Ob hs at_of R)
      (sound : Sound n hs at_of t) where
    abbrev st : Reason → State
    st r = state_of (row n t) (at_of r)

    abbrev all : List Reason
    all = reasons b.book.rules m.shelf.rows

    abbrev is_vacant : Mark → Bool
    is_vacant h = says_open (truth (row n t) h)

    -- where no hold is crossed or open, each is kept
    keeps : find (is_crossed (row n t) t) hs ≡ None → find is_vacant hs ≡ None → Kept hs t
    keeps ec eh h i = grind (arith, find_none (is_crossed (row n t) t) hs ec h i, crossed_reason n Ob hs at_of dis t sound h i, find_none is_vacant hs eh h i, distinct_member n hs h dis i, truth_shows n t h)

    -- where all is settled and no rule is broken or pressing, each rule of the book is met
    met : find (λ r. is_broken (st r)) all ≡ None → find (λ r. is_pressing (st r)) all ≡ None → is_full (row n t) ≡ true → Met
    unfolding rule_at
    met ea ep ev R am =
        let (j, is) = among_place b.book.rules R am in
        let i : ℕ = suc j in
        let here = book_among b.book.rules m.shelf.rows i R is in
        let range = within b law R am in
        let says : Says t R quiet = grind (arith, state_says n t R range, find_none (λ r. is_broken (st r)) all ea (Book i) here, find_none (λ r. is_pressing (st r)) all ep (Book i) here) in
        says (λ y k. grind (arith, range y k, row_settled n t y.part ev))

    -- a turn on a broken rule
    on_broken : (r : Reason) → st r ≡ broken → Looked (turn_on r)
    unfolding start
    on_broken r h =
        let (R, is, says) = at_state n t (at_of r) broken (λ R is. (ok r R is).1) h (λ q. grind arith) in
        let g = ok r R is in
        let apart : Apart R = λ y i j. grind (arith, says y i, says (opposite_of y) j) in
        let fine = start_fine n Ob hs at_of R g apart in
        (R, is, apart, turn_ok n Ob hs at_of ok (enter (replicate n 0) R) t (top n t) (omega arith) sound (λ y i. inl (says y (start_names n Ob hs at_of R g.1 y i))) fine)

    -- a turn on the reason of a part that is settled against its hold
    on_crossed : (r : Reason) (h : Mark) → Among h hs → Failed t h → reason_of t h.part ≡ Some r → Looked (turn_on r)
    unfolding start
    on_crossed r h i f q =
        let x : Mark = opposite_of h in
        let (R, is, others, lone) = reason_facts n Ob hs at_of t sound x r q f in
        let g = ok r R is in
        let apart : Apart R = λ y i j. grind (arith, others y i, others (opposite_of y) j, twice_opposite) in
        let fine = start_fine n Ob hs at_of R g apart in (
          R,
          is,
          apart,
          cross_turn n Ob hs at_of ok R (enter (replicate n 0) R) (start_names n Ob hs at_of R g.1) fine r x is
              (subst (λ z. Among z hs) (twice_opposite h x refl) i) t (top n t) (omega arith) sound q f,
        )

    -- a pressing rule's open mark is forced
    on_pressing : (r : Reason) (s : State) → st r ≡ s → is_pressing s ≡ true → (c : Option Reason) (h : Option Mark) (v : Bool) → Looked (choose None (press_by r s) c h v)
    on_pressing r (pressing x) e y c h v =
        let (R, is, says) = at_state n t (at_of r) (pressing x) (λ R is. (ok r R is).1) e (λ q. grind arith) in
        (says.1, (ok r R is).1 x says.0, (R, is, says.0, says.2))
    on_pressing r s e y c h v = absurd (grind arith)

    -- a hold that is settled on the other side is crossed by the reason of its part
    on_false : (g : Mark) → Among g hs → Failed t g → (o : Option Reason) → reason_of t g.part ≡ o → (h : Option Mark) (v : Bool) → Looked (choose None None o h v)
    on_false g i f (Some r) e h v = on_crossed r g i f e
    on_false g i f None e h v = absurd (crossed_reason n Ob hs at_of dis t sound g i f e)

    -- the first of six that applies
    choose_ok : (a p : Option Reason) (c h : Option Mark) (v : Bool)
        → find (λ r. is_broken (st r)) all ≡ a → find (λ r. is_pressing (st r)) all ≡ p → find (is_crossed (row n t) t) hs ≡ c → find is_vacant hs ≡ h
        → is_full (row n t) ≡ v
        → Looked (choose a (option_and_then (λ r. press_by r (st r)) p) (option_and_then (λ h. reason_of t h.part) c) h v)
    choose_ok (Some r) p c h v ea ep ec eh ev = let (i, k) = find_some (λ r. is_broken (st r)) all r ea in on_broken r (grind arith)
    choose_ok None (Some r) c h v ea ep ec eh ev = on_pressing r (st r) refl (find_some (λ r. is_pressing (st r)) all r ep).1 _ h v
    choose_ok None None (Some g) h v ea ep ec eh ev =
        let (i, k) = find_some (is_crossed (row n t) t) hs g ec in
        on_false g i (grind (arith, truth_shows n t g, distinct_member n hs g dis i)) (reason_of t g.part) refl h v
    choose_ok None None None (Some h) v ea ep ec eh ev =
        let (i, k) = find_some is_vacant hs h eh in
        grind (arith, truth_shows n t h, distinct_member n hs h dis i)
    choose_ok None None None None true ea ep ec eh ev = (keeps ec eh, met ea ep ev, ev)
    choose_ok None None None None false ea ep ec eh ev = (keeps ec eh, ev)

    pub look_ok : Looked (look b m)
    unfolding look
    look_ok = choose_ok _ _ _ _ _ refl refl refl refl refl
