-- The walks over bays and over the pairs of a bay.
use Rattle.std.proofs.Common.{◌≡◌, ◌↔◌, ℕ, zero, suc, ◌+◌, ◌-◌, ◌*◌, ◌/◌, ◌<◌, ◌≤◌, nat_lt, cond, List, [], ◌∷◌, ◌++◌, map, length, get_or, drop, slice_get, option_map, Some, refl, arith, ◌⊎◌, inl, inr, ⊎_elim}
use Rattle.std.proofs.lemmas.Bool.Decides.{nat_tests}
use Rattle.std.proofs.lemmas.Grind.{common_steps}
use Rattle.std.proofs.lemmas.List.{at_drop_more}
use Rattle.std.specs.List.{range_with_len, AllByRecursion}
use Rattle.std.proofs.lemmas.List.FromFn.{length-map-range_with_len, get_or-map-range_with_len}
use Rattle.std.proofs.lemmas.Option.{gets}
use Rattle.std.proofs.lemmas.List.Elements.{All-from_recursion, recursion_from_All}
use Rattle.parts.specs.declared.side.Side.{Side}
use Rattle.parts.specs.declared.side.Side.TheVariants.{In, Out}
use Rattle.parts.proofs.Among.{any_among, among_any}
use Rattle.book.specs.Choices.{Choice, Takes, Meets}
use Rattle.book.specs.Meaning.{Rule}
use Rattle.bays.specs.Meaning.{in_mark, some_in, not_both, pairs, bay_rules, bays_rules, pair_count, bay_count, out_mark}
use Rattle.bays.specs.Proved.{length_pairs}
use Rattle.bays.specs.Law.{InBay, OneIn, OneInEach, HoldOne}

-- what stands in a list that is mapped from a range
pub ruleset mapped = (common_steps, gets, length-map-range_with_len, get_or-map-range_with_len)

-- the number of pairs, as it is computed
pairs_twice : (w : ℕ) → 2 * pair_count (suc w) ≡ suc w * w
pairs_twice zero = refl
pairs_twice (suc w) = omega (arith, pairs_twice w)

pub pairs_counted : (w : ℕ) → 1 ≤ w → bay_count w ≡ 1 + w * (w - 1) / 2
pairs_counted w h = grind (arith, pairs_twice (w - 1))

-- the rules of the bays from one on are those of that bay and of those after it
pub rule_drop : (ws : List ℕ) (i from number : ℕ) → i < length ws → slice_get (bays_rules from (drop i ws)) number ≡ slice_get (bays_rules from (get_or ws i 0 ∷ drop (i + 1) ws)) number
rule_drop ws i from number h = at_drop_more (λ xs. slice_get (bays_rules from xs) number) ws i 0 h

-- a pair of the first bay, or a rule of a later one
module _ (from w : ℕ) (ws : List ℕ) (number : ℕ) where
  pub this_bay : 1 ≤ number → number < bay_count w → slice_get (bays_rules from (w ∷ ws)) number ≡ slice_get (pairs from w) (number - 1)
  this_bay lo hi = grind (arith, common_steps, gets, length_pairs)

  pub later_bay : bay_count w ≤ number → slice_get (bays_rules from (w ∷ ws)) number ≡ slice_get (bays_rules (from + w) ws) (number - bay_count w)
  later_bay h = grind (arith, common_steps, gets, length_pairs)

-- a pair with the first part of the bay, or with a later one
pub pair_turn : (low w left : ℕ) → 1 ≤ w → slice_get (pairs low w) left ≡ cond (nat_lt left (w - 1)) (Some (not_both low (low + 1 + left))) (slice_get (pairs (low + 1) (w - 1)) (left - (w - 1)))
pair_turn low zero left h = absurd (omega arith)
pair_turn low (suc w) left h = grind (arith, nat_tests, mapped)

-- each pair's rule has two marks
pub two_at : (from w k : ℕ) → k < pair_count w → option_map length (slice_get (pairs from w) k) ≡ Some 2
two_at from zero k h = absurd (omega arith)
two_at from (suc w) k h = grind (arith, mapped, two_at (from + 1) w (k - w))

-- The rules of bays hold exactly where one part of each bay is in.
split : {X : Type 0} (P : X → Type 0) (xs ys : List X) → AllByRecursion P (xs ++ ys) ↔ (AllByRecursion P xs × AllByRecursion P ys)
split P [] ys = (λ a. (tt, a), λ a. a.1)
split P (x ∷ xs) ys = let r = split P xs ys in (λ a. let b = r.0 a.1 in ((a.0, b.0), b.1), λ a. (a.0.0, r.1 (a.0.1, a.1)))

side_cases : (s : Side) → (s ≡ In) ⊎ (s ≡ Out)
side_cases In = inl refl
side_cases Out = inr refl

module _ (f : Choice) where
  -- one of two parts is out
  pair_holds : (i j : ℕ) → Meets f (not_both i j) ↔ (f i ≡ In → f j ≡ In → ⊥)
  pair_holds i j = (
    λ w p q. let (m, a, t) = any_among (Takes f) (not_both i j) w in grind arith,
    λ h. ⊎_elim (λ p. among_any (Takes f) (not_both i j) (out_mark j) (inr (inl refl)) (grind (arith, h p, side_cases (f j)))) (λ p. among_any (Takes f) (not_both i j) (out_mark i) (inl refl) p) (side_cases (f i)),
  )

  -- the pairs of one part with each of w parts from another on, before further rules
  row_holds : (i a w : ℕ) (rs : List Rule) → AllByRecursion (Meets f) (map (not_both i) (range_with_len a w) ++ rs)
      ↔ (((q : ℕ) → InBay a w q → f i ≡ In → f q ≡ In → ⊥) × AllByRecursion (Meets f) rs)
  row_holds i a zero rs = (λ all. (λ q b p s. absurd (omega arith), all), λ h. h.1)
  row_holds i a (suc w) rs =
      let here = pair_holds i a in
      let r = row_holds i (a + 1) w rs in (
        λ all. let t = r.0 all.1 in (λ q b p s. grind (arith, here.0 all.0, t.0 q), t.1),
        λ h. (here.1 (h.0 a (omega arith, omega arith)), r.1 (λ q b. h.0 q (omega arith, omega arith), h.1)),
      )

  pairs_hold : (a w : ℕ) → AllByRecursion (Meets f) (pairs a w) ↔ ((p q : ℕ) → a ≤ p → p < q → q < a + w → f p ≡ In → f q ≡ In → ⊥)
  pairs_hold a zero = (λ all p q low rise high fp fq. absurd (omega arith), λ h. tt)
  pairs_hold a (suc w) =
      let row = row_holds a (a + 1) w (pairs (a + 1) w) in
      let r = pairs_hold (a + 1) w in (
        λ all p q low rise high fp fq. let t = row.0 all in grind (arith, t.0 q, r.0 t.1 p q),
        λ h. row.1 (λ q b. h a q (omega arith) (omega arith) (omega arith), r.1 (λ p q low rise high. h p q (omega arith) rise (omega arith))),
      )

  -- some part of a bay is in
  some_holds : (a w : ℕ) → Meets f (some_in a w) ↔ ((p : ℕ) × InBay a w p × (f p ≡ In))
  some_holds a w = (
    λ x. (a + x.0, grind (arith, mapped), grind (arith, mapped)),
    λ x. (x.0 - a, in_mark x.0, grind (arith, mapped), grind (arith, mapped), x.2),
  )

  bay_holds : (a w : ℕ) → AllByRecursion (Meets f) (bay_rules a w) ↔ OneIn f a w
  bay_holds a w =
      let apart = pairs_hold a w in (
        λ all. record { one = (some_holds a w).0 all.0; same = λ p q i j fp fq. grind (arith, apart.0 all.1 p q, apart.0 all.1 q p) },
        λ o. ((some_holds a w).1 o.one, apart.1 (λ p q low rise high fp fq. grind (arith, o.same p q))),
      )

  bays_hold : (a : ℕ) (ws : List ℕ) → AllByRecursion (Meets f) (bays_rules a ws) ↔ OneInEach f a ws
  bays_hold a [] = (λ _. tt, λ _. tt)
  bays_hold a (w ∷ ws) =
      let s = split (Meets f) (bay_rules a w) (bays_rules (a + w) ws) in
      let r = bays_hold (a + w) ws in
      (λ all. let h = s.0 all in ((bay_holds a w).0 h.0, r.0 h.1), λ o. s.1 ((bay_holds a w).1 o.0, r.1 o.1))

pub hold_one : (ws : List ℕ) → HoldOne ws
hold_one ws f =
    let h = bays_hold f 1 ws in
    let rs = bays_rules 1 ws in
    (λ o. h.0 (recursion_from_All (Meets f) rs o), λ o. All-from_recursion (Meets f) rs (h.1 o))
