-- Nothing in this module needs to be believed: it proves that the pickers are sound, which the
-- checker wants beside the definitions.
use Rattle.std.specs.Prelude.{◌≡◌, ℕ, zero, suc, ◌+◌, ◌-◌, ◌<◌, ◌≤◌, Bool, true, false, not, cond, ◌||◌, ◌⊎◌, List, [], ◌∷◌, length, Some, None, Decides, Option, MatchOption, ◌==◌, nat_le, nat_lt, slice_index_or, refl}
use Rattle.std.proofs.Common.{ap, ◌∙◌, inl, inr, sym, subst, get_or, ⊎_elim, arith}
use Rattle.std.specs.Option.{unwrap_or}
use Rattle.std.specs.List.{All, AllByRecursion, list_all, range_with_len, position_or_len}
use Rattle.std.proofs.lemmas.List.Elements.{All-from_recursion}
use Rattle.std.proofs.lemmas.List.FromFn.{length-range_with_len, get_or-range_with_len}
use Rattle.std.proofs.lemmas.List.Recursion.{and_at, and_from_places}
use Rattle.std.proofs.lemmas.List.Sums.{sum_by-cons, passes_at_first}
use Rattle.std.proofs.lemmas.Bool.{and_parts, leb-true, ltb-true, eqb-true, eq-eqb, ne_eqb, cond_both, both_ways}
use Rattle.std.proofs.lemmas.Bool.Decides.{nat_tests, eqb_tells}
use Rattle.parts.specs.declared.limits.TheConstants.{MOST_PARTS}
use Rattle.parts.specs.declared.mark.Mark.{Mark}
use Rattle.parts.specs.declared.side.Side.TheVariants.{Out}
use Rattle.parts.specs.Codes.{is_row, all_codes}
use Rattle.picker.specs.Meaning.{Free, Sound, some_open, is_answered, is_size}
use Rattle.picker.specs.Lowest.{lowest_open, lowest_picks}
use Rattle.picker.specs.Ranking.{times, each_once, is_ranking, is_open, first_open, ranked_picks}

-- a row has an open part exactly if its first open place is within it
some_step : (b r : Bool) (k l : ℕ) → r ≡ nat_lt k l
    → (b || r) ≡ nat_lt (cond (not b) (1 + k) 0) (suc l)
some_step true r k l h = grind (arith, nat_tests)
some_step false r k l h = grind (arith, nat_tests)

pub some_place : (row : List ℕ)
    → some_open row ≡ nat_lt (position_or_len (λ c. c == 0) row) (length row)
some_place [] = refl
some_place (c ∷ cs) =
    some_step (c == 0) (some_open cs) (position_or_len (λ c. c == 0) cs) (length cs) (some_place cs)

pub lowest_free : (row : List ℕ) → some_open row ≡ true → Free (length row) row (lowest_open row)
lowest_free row h =
    let place = position_or_len (λ c. c == 0) row in
    let l : place < length row = ltb-true place (length row) (sym (some_place row) ∙ h) in
    let e : place + 1 - 1 ≡ place = omega arith in
    record {
      first = omega arith;
      last = omega arith;
      free = rw e (eqb-true _ 0 (passes_at_first (λ c. c == 0) row 1 l));
    }

pub lowest_sound : (n : ℕ) → is_size n ≡ true → Sound (lowest_picks n)
lowest_sound n h =
    let p = and_parts _ _ h in
    record {
      some = leb-true 1 n p.0;
      few = leb-true n MOST_PARTS p.1;
      frees = λ row a.
          let q = and_parts _ _ a in
          let l = eqb-true (length row) n (and_parts _ _ q.0).0 in
          rw (← l) (lowest_free row q.1);
    }

part_at : (n k : ℕ) → k < n → get_or (range_with_len 1 n) k 0 ≡ suc k
part_at n k l = omega (arith, get_or-range_with_len 1 n k 0 l)

-- each part up to n is named once exactly if the test says so
pub once_decides : (ms : List Mark) (n : ℕ)
    → Decides (each_once n ms) ((k : ℕ) → k < n → times ms (suc k) ≡ 1)
once_decides ms n =
    let once : ℕ → Bool = λ part. times ms part == 1 in
    let parts = range_with_len 1 n in (
      λ h k l. eqb-true (times ms (suc k)) 1
          (subst (λ p. once p ≡ true) (part_at n k l)
          (and_at (list_all once) once refl (λ _ _. refl) parts k 0
          (rw length-range_with_len l) h)),
      λ f.
          and_from_places (list_all once) once refl (λ _ _. refl) parts 0
          (λ k h. let l = rw length-range_with_len at h in
          subst (λ p. once p ≡ true) (sym (part_at n k l))
          (eq-eqb (times ms (suc k)) 1 (f k l))),
    )

-- 1 where the test holds
abbrev tally : Bool → ℕ
tally b = cond b 1 0

-- how often a part is one of the first k, and how often the marks name one of those
abbrev hits : ℕ → ℕ → ℕ
hits zero p = 0
hits (suc k) p = tally (p == suc k) + hits k p

abbrev all_hits : ℕ → List Mark → ℕ
all_hits k [] = 0
all_hits k (m ∷ ms) = hits k m.part + all_hits k ms

hits_cases : (k p : ℕ) → (hits k p ≡ 0) ⊎ ((hits k p ≡ 1) × (1 ≤ p) × (p ≤ k))
hits_cases zero p = inl refl
hits_cases (suc k) p =
    let before = hits_cases k p in
    ⊎_elim
    (λ e. inr (
      omega (
        arith,
        ap tally e.0,
        ⊎_elim {A = hits k p ≡ 0} {C = hits k p ≡ 0} (λ z. z) (λ z. absurd (omega arith)) before,
      ),
      omega arith,
      omega arith,
    ))
    (λ e. ⊎_elim (λ z. inl (omega (arith, ap tally e.0)))
    (λ z. inr (omega (arith, ap tally e.0), z.1, omega arith)) before)
    (eqb_tells p (suc k))

hits_none : (ms : List Mark) → all_hits 0 ms ≡ 0
hits_none [] = refl
hits_none (m ∷ ms) = omega (arith, hits_none ms)

-- the marks that name a part, the first mark apart
times_more : (p : ℕ) (m : Mark) (ms : List Mark)
    → times (m ∷ ms) p ≡ tally (m.part == p) + times ms p
times_more p m ms = sum_by-cons (λ x. tally (x.part == p)) m ms

hits_more : (k : ℕ) (ms : List Mark) → all_hits (suc k) ms ≡ times ms (suc k) + all_hits k ms
hits_more k [] = refl
hits_more k (m ∷ ms) = omega (arith, hits_more k ms, times_more (suc k) m ms)

hits_once : (k : ℕ) (ms : List Mark) → ((j : ℕ) → j < k → times ms (suc j) ≡ 1) → all_hits k ms ≡ k
hits_once zero ms h = hits_none ms
hits_once (suc k) ms h =
    omega (arith, hits_more k ms, hits_once k ms (λ j l. h j (omega arith)), h k (omega arith))

hits_few : (k : ℕ) (ms : List Mark) → all_hits k ms ≤ length ms
hits_few k [] = omega arith
hits_few k (m ∷ ms) =
    ⊎_elim (λ z. omega (arith, hits_few k ms)) (λ z. omega (arith, hits_few k ms))
    (hits_cases k m.part)

abbrev pub Within : ℕ → Mark → Type 0
Within n m = (1 ≤ m.part) × (m.part ≤ n)

hits_all : (k : ℕ) (ms : List Mark) → all_hits k ms ≡ length ms → AllByRecursion (Within k) ms
hits_all k [] h = tt
hits_all k (m ∷ ms) h =
    let few = hits_few k ms in
    ⊎_elim (λ z. absurd (omega arith)) (λ z. ((z.1, z.2), hits_all k ms (omega arith)))
    (hits_cases k m.part)

pub ranked_parts : (ms : List Mark) → is_ranking ms ≡ true → AllByRecursion (Within (length ms)) ms
ranked_parts ms h =
    hits_all (length ms) ms
    (hits_once (length ms) ms
    ((once_decides ms (length ms)).0
    (and_parts (is_size (length ms)) (each_once (length ms) ms) h).1))

pub ranks_within : (ms : List Mark) → is_ranking ms ≡ true → All (Within (length ms)) ms
ranks_within ms h = All-from_recursion (Within (length ms)) ms (ranked_parts ms h)

-- the first open mark, or none where all are settled
abbrev pub AllSettled : List ℕ → List Mark → Type 0
AllSettled row ms = AllByRecursion (λ m. is_open row m.part ≡ false) ms

-- the mark is good, and its part is open
abbrev pub GoodAndOpen : (Mark → Type 0) → List ℕ → Mark → Type 0
GoodAndOpen P row m = P m × (is_open row m.part ≡ true)

by_cases : {X : Type 0} {P P' : Type 0} (Q Q' : X → Type 0) (o : Option X) → (P → P')
    → ((x : X) → Q x → Q' x) → MatchOption o P Q → MatchOption o P' Q'
by_cases Q Q' None f g h = f h
by_cases Q Q' (Some x) f g h = g x h

pub first_found : (P : Mark → Type 0) (row : List ℕ) (ms : List Mark) → AllByRecursion P ms
    → MatchOption (first_open row ms) (AllSettled row ms) (GoodAndOpen P row)
first_found P row [] a = tt
first_found P row (m ∷ ms) a =
    cond_both (is_open row m.part) (Some m) (first_open row ms)
    (λ o. MatchOption o (AllSettled row (m ∷ ms)) (GoodAndOpen P row))
    (λ e. (a.0, e))
    (λ e. by_cases (GoodAndOpen P row) (GoodAndOpen P row) (first_open row ms)
    (λ closed. (e, closed)) (λ _ f. f) (first_found P row ms a.1))

unnamed : (row : List ℕ) (ms : List Mark) (p : ℕ) → is_open row p ≡ true → AllSettled row ms
    → times ms p ≡ 0
unnamed row [] p h a = refl
unnamed row (m ∷ ms) p h a =
    omega (
      arith,
      ap tally
          (ne_eqb m.part p (λ e. both_ways (is_open row m.part) a.0 (ap (is_open row) e ∙ h))),
      unnamed row ms p h a.1,
      times_more p m ms,
    )

-- some mark of the list is open where some part is
named : (row : List ℕ) (ms : List Mark) → is_ranking ms ≡ true → length row ≡ length ms
    → some_open row ≡ true → AllSettled row ms → ⊥
named row ms h l s closed =
    let f = lowest_free row s in
    let k = lowest_open row - 1 in
    let once =
    (once_decides ms (length ms)).0
    (and_parts (is_size (length ms)) (each_once (length ms) ms) h).1 k
    (omega (arith, f.first, f.last)) in
    let e : suc k ≡ lowest_open row = omega (arith, f.first) in
    omega (arith, once, unnamed row ms (suc k) (rw e (eq-eqb _ 0 f.free)) closed)

pub first_free : (row : List ℕ) (ms : List Mark) → is_ranking ms ≡ true
    → is_answered (length ms) row ≡ true
    → MatchOption (first_open row ms) ⊥ (λ m. Free (length ms) row m.part)
first_free row ms h a =
    let p = and_parts (is_row (length ms) row) (some_open row) a in
    let l =
    eqb-true (length row) (length ms)
    (and_parts (length row == length ms) (all_codes row) p.0).0 in
    by_cases (GoodAndOpen (Within (length ms)) row) (λ m. Free (length ms) row m.part)
    (first_open row ms)
    (named row ms h l p.1)
    (λ m f. record {
      first = f.0.0;
      last = f.0.1;
      free = eqb-true (slice_index_or row (m.part - 1) 1) 0 f.1;
    })
    (first_found (Within (length ms)) row ms (ranked_parts ms h))

value_of : (Q : Mark → Type 0) (o : Option Mark) (d : Mark) → MatchOption o ⊥ Q → Q (unwrap_or o d)
value_of Q None d h = absurd h
value_of Q (Some m) d h = h

pub ranked_sound : (ms : List Mark) → is_ranking ms ≡ true → Sound (ranked_picks ms)
ranked_sound ms h =
    let p =
    and_parts (nat_le 1 (length ms)) (nat_le (length ms) MOST_PARTS)
    (and_parts (is_size (length ms)) (each_once (length ms) ms) h).0 in
    record {
      some = leb-true 1 (length ms) p.0;
      few = leb-true (length ms) MOST_PARTS p.1;
      frees =
          λ row a. value_of (λ m. Free (length ms) row m.part) (first_open row ms)
          (record { part = 0; side = Out }) (first_free row ms h a);
    }
