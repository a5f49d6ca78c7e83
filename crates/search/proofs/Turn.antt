-- The turn: what the working rule keeps, and what the turn ends in.
use Rattle.std.proofs.Common.{◌≡◌, ℕ, suc, ◌+◌, ◌-◌, ◌*◌, ◌^◌, ◌<◌, ◌≤◌, Bool, true, false, ◌&&◌, ◌≢◌, ◌⊎◌, [], ◌∷◌, length, is_some, Some, None, Option, sym, refl, inl, inr, le_trans, pow-suc, arith}
use Rattle.std.proofs.lemmas.Bool.{cases_Bool, cases_eq}
use Rattle.parts.specs.Codes.{all_codes}
use Rattle.parts.specs.Marks.{opposite_of}
use Rattle.parts.specs.Rows.{Row, names_mark}
use Rattle.parts.specs.declared.mark.Mark.{Mark}
use Rattle.parts.proofs.Among.{Among, contains_among}
use Rattle.parts.proofs.Tally.{tally, tally_none, tally_le, tally_more}
use Rattle.book.specs.Choices.{Choice, Takes}
use Rattle.book.specs.Meaning.{Rule}
use Rattle.search.specs.declared.entry.Entry.{Entry}
use Rattle.search.specs.declared.entry.Kind.{Kind}
use Rattle.search.specs.declared.entry.Kind.TheVariants.{Held, Picked, Forced}
use Rattle.search.specs.declared.reason.Reason.{Reason}
use Rattle.search.specs.Trail.{Trail, settled, enter, leave}
use Rattle.search.specs.Machine.{resolve, worked, is_picked, Outcome, bottom, stop, turn}
use Rattle.search.proofs.Basics.{twice_opposite}
use Rattle.search.specs.Law.{Agrees, NoMarkLost}
use Rattle.search.proofs.Rows.{Names, Within, names_true, not_names, true_names, enter_length, enter_codes, enter_stays, enter_comes, enter_from, leave_length, leave_codes, leave_from, leave_stays}
use Rattle.search.proofs.Invariant.{Failed, Ranged, Follows, Kept, Why, Sound, worth}

-- every choice that obeys meets a mark that the row names
abbrev pub FollowsRow : (Choice → Type 0) → Row → Type 0
FollowsRow Ob c = (f : Choice) → Ob f → (y : Mark) × Names c y × Takes f y

-- a bound on the worth of all trails that grow from this one
abbrev pub top : ℕ → Trail → ℕ
top n t = worth n t + 2 ^ (n - length t)

-- no part twice, so at most n entries
pub sound_settled : (n : ℕ) (hs : Rule) (at : Reason → Option Rule) (t : Trail) → Sound n hs at t → length t ≡ tally (λ p. is_some (settled t p)) 1 n
unfolding settled
sound_settled n hs at [] s = sym (tally_none (λ p. is_some (settled [] p)) 1 n (λ p. refl))
sound_settled n hs at (e ∷ t) s =
    let more = tally_more (λ p. is_some (settled t p)) (λ p. is_some (settled (e ∷ t) p)) e.mark.part 1 n (λ p ne. grind arith) (grind arith) (grind arith) in
    grind (arith, more, sound_settled n hs at t s.3)

pub sound_length : (n : ℕ) (hs : Rule) (at : Reason → Option Rule) (t : Trail) → Sound n hs at t → length t ≤ n
sound_length n hs at t s = omega (arith, sound_settled n hs at t s, tally_le (λ p. is_some (settled t p)) 1 n)

-- a weight is half of the one before
half : (n l : ℕ) → l < n → 2 ^ (n - l) ≡ 2 * 2 ^ (n - suc l)
half n l h = grind (arith, pow-suc 2 (n - suc l))

-- older trails have the higher bound
pub top_falls : (n : ℕ) (e : Entry) (t : Trail) → length t < n → top n (e ∷ t) ≤ top n t
unfolding worth
top_falls n e t h = grind (arith, half n (length t) h)

-- the worth after a picked entry is turned
pub picked_rise : (n : ℕ) (e : Entry) (t : Trail) → is_picked e.kind ≡ true → top n (e ∷ t) ≡ worth n t + 2 ^ (n - suc (length t))
unfolding worth
picked_rise n e t h = grind arith

module _ (n : ℕ) (Ob : Choice → Type 0) (hs : Rule) (at : Reason → Option Rule) where
  -- a rule that follows from the book
  abbrev pub Good : Rule → Type 0
  Good r = Follows Ob r × Ranged n r

  -- a working rule: n codes, and it follows from the book
  abbrev pub Fine : Row → Type 0
  Fine c = FollowsRow Ob c × (length c ≡ n) × (all_codes c ≡ true)

  -- each mark of the working rule is false under the trail, or the opposite of a hold taken off before
  abbrev pub Covered : Trail → Row → Type 0
  Covered t c = (y : Mark) → Names c y → Failed t y ⊎ (Among (opposite_of y) hs × (settled t y.part ≡ None))

  -- what a turn ends in: at the bottom only opposites of holds are named; at a pick the rule presses its opposite, and the worth has risen
  abbrev pub Ends : ℕ → Outcome → Type 0
  Ends w (bottom c) = FollowsRow Ob c × ((y : Mark) → Names c y → Among (opposite_of y) hs)
  Ends w (stop x c t) =
      record {
        fine : Fine c;
        sound : Sound n hs at t;
        vacant : settled t x.part ≡ None;
        range : (1 ≤ x.part) × (x.part ≤ n);
        kept : Kept hs t;
        own : Names c (opposite_of x);
        others : (y : Mark) → Names c y → (y ≡ opposite_of x) ⊎ Failed t y;
        rise : w ≤ worth n t + 2 ^ (n - suc (length t));
      }

  module _ (r : Reason) (x : Mark) (c : Row) (t : Trail) (R : Rule) (gr : Good R) (range : (1 ≤ x.part) × (x.part ≤ n)) (op : settled t x.part ≡ None)
      (others : (y : Mark) → Among y R → (y ≡ x) ⊎ Failed t y) (cov : Covered (record { mark = x; kind = Forced r } ∷ t) c) (fine : Fine c) where
    within : Within c R
    within y j = grind (arith, gr.1 y j)

    here : (1 ≤ x.part) × (x.part ≤ length (enter c R))
    here = grind (arith, enter_length c R)

    -- what the resolved rule names: the old marks of other parts, the reason's false marks, and no others
    stays : (y : Mark) → Names c y → y.part ≢ x.part → Names (leave x.part (enter c R)) y
    unfolding settled
    stays y i ne = leave_stays x.part (enter c R) y here (enter_stays c R y within i (λ j. grind (arith, cov y i, others (opposite_of y) j))) ne

    comes : (z : Mark) → Among z R → Failed t z → Names (leave x.part (enter c R)) z
    comes z i f = leave_stays x.part (enter c R) z here (enter_comes c R z within i (λ j. grind (arith, others (opposite_of z) j))) (λ q. grind arith)

    covered : Covered t (leave x.part (enter c R))
    unfolding settled
    covered y i =
        let (k, ne) = leave_from x.part (enter c R) y here i in
        grind (arith, enter_from c R y within k, cov y, others y)

    follows : FollowsRow Ob (leave x.part (enter c R))
    unfolding settled
    follows f ob =
        let (y, i, ty) = fine.0 f ob in
        let (z, j, tz) = gr.0 f ob in
        elim (cases_eq y.part x.part) [
          | inr ne ↦ (y, stays y i ne, ty)
          | inl q ↦ elim (others z j) [ inr fz ↦ (z, comes z j fz, tz) | inl e ↦ grind (arith, cov y i) ]
        ]

    -- resolving a forced part keeps the working rule fine and covered
    resolved : Covered t (leave x.part (enter c R)) × Fine (leave x.part (enter c R))
    resolved = (covered, (follows, grind (arith, leave_length x.part (enter c R), enter_length c R), leave_codes x.part (enter c R) (enter_codes c R fine.2)))

  -- so does every entry that is taken off
  pub worked_ok : (v : Bool) (k : Kind) (x : Mark) (c : Row) (t : Trail) → names_mark c (opposite_of x) ≡ v → (is_picked k && v) ≡ false
      → ((r : Reason) (R : Rule) → at r ≡ Some R → Good R) → (1 ≤ x.part) × (x.part ≤ n)
      → settled t x.part ≡ None → Why hs at k x t → Covered (record { mark = x; kind = k } ∷ t) c → Fine c
      → Covered t (worked v k x.part c at) × Fine (worked v k x.part c at)
  unfolding resolve settled
  worked_ok false k x c t hv hq ok range op why cov g = (λ y i. grind (arith, cov y i, true_names c y), g)
  worked_ok true Held x c t hv hq ok range op why cov g = (λ y i. grind (arith, cov y i, twice_opposite x y), g)
  worked_ok true Picked x c t hv hq ok range op why cov g = grind arith
  worked_ok true (Forced r) x c t hv hq ok range op (R, is, own, others) cov g = rw is (resolved r x c t R (ok r R is) range op others cov g)

  -- no other mark of the reason has its opposite in the working rule
  agrees : (x : Mark) (k : Kind) (c : Row) (t : Trail) (R : Rule) → settled t x.part ≡ None → ((y : Mark) → Among y R → (y ≡ x) ⊎ Failed t y)
      → Covered (record { mark = x; kind = k } ∷ t) c → Agrees c x.part R
  unfolding settled
  agrees x k c t R op others cov y i ne = not_names c (opposite_of y) (λ j. grind (arith, cov (opposite_of y) j, others y (contains_among R y i)))

  resolved_agrees : (v : Bool) (k : Kind) (x : Mark) (c : Row) (t : Trail) → settled t x.part ≡ None → Why hs at k x t → Covered (record { mark = x; kind = k } ∷ t) c
      → (r : Reason) → k ≡ Forced r → v ≡ true → (R : Rule) × (at r ≡ Some R) × Agrees c x.part R
  resolved_agrees v Held x c t op why cov r e h = absurd (cc)
  resolved_agrees v Picked x c t op why cov r e h = absurd (cc)
  resolved_agrees v (Forced q) x c t op (R, is, own, others) cov r e h = (R, cc, agrees x (Forced q) c t R op others cov)

  -- and so the turn ends well, and no mark is lost
  pub turn_ok : ((r : Reason) (R : Rule) → at r ≡ Some R → Good R) → (c : Row) (t : Trail) (w : ℕ) → w ≤ top n t → Sound n hs at t → Covered t c → Fine c
      → Ends w (turn at c t) × NoMarkLost at c t
  unfolding turn settled NoMarkLost
  turn_ok ok c [] w l s cov g = ((g.0, λ y i. grind (arith, cov y i)), tt)
  turn_ok ok c (e ∷ t) w l s cov g =
      let lost = resolved_agrees (names_mark c (opposite_of e.mark)) e.kind e.mark c t s.0 s.2 cov in
      elim (cases_Bool (is_picked e.kind && names_mark c (opposite_of e.mark))) [
        | inl q ↦
            let kept : Kept hs t = grind arith in
            let others : ((y : Mark) → Names c y → (y ≡ opposite_of e.mark) ⊎ Failed t y) = λ y i. grind (arith, cov y i, kept (opposite_of y)) in
            (rw (q, Ends) (grind (arith, names_true c (opposite_of e.mark), picked_rise n e t)), (lost, λ no. absurd (cc)))
        | inr q ↦
            let k = worked_ok (names_mark c (opposite_of e.mark)) e.kind e.mark c t refl q ok s.1 s.0 s.2 cov g in
            let rest = turn_ok ok (worked (names_mark c (opposite_of e.mark)) e.kind e.mark.part c at) t w (le_trans l (top_falls n e t (sound_length n hs at (e ∷ t) s))) s.3 k.0 k.1 in
            (rw (q, Ends) rest.0, (lost, λ no. rest.1))
      ]
