-- Nothing in this module needs to be believed: it proves that a book of bays is sound, which the
-- checker wants beside the definitions.
use Rattle.std.specs.Prelude.{◌≡◌, ℕ, zero, suc, ◌+◌, ◌*◌, ◌<◌, ◌≤◌, true, false, List, [], ◌∷◌, map, length, sum, refl}
use Rattle.std.proofs.lemmas.Bool.Decides.{nat_tests}
use Rattle.std.proofs.Common.{arith, length-append}
use Rattle.std.specs.List.{range_with_len, AllByRecursion}
use Rattle.std.proofs.lemmas.List.FromFn.{length-map-range_with_len}
use Rattle.std.proofs.lemmas.List.Sums.{sum_by-cons}
use Rattle.std.proofs.lemmas.Bool.{and_from}
use Rattle.parts.specs.declared.limits.TheConstants.{MOST_PARTS, MOST_WIDTH}
use Rattle.parts.specs.Distinct.{names}
use Rattle.book.specs.Meaning.{Sound, sound_rule, sound_rules}
use Rattle.book.specs.Proved.{sound_rules-append}
use Rattle.bays.specs.Meaning.{some_in, not_both, pairs, bay_rules, bays_rules, bay_book, pair_count, bay_count, rule_count, widths_in_range, has_bay_book}

-- a bay before the others
sum_more : (w : ℕ) (ws : List ℕ) → sum (w ∷ ws) ≡ w + sum ws
sum_more w ws = sum_by-cons (λ x. x) w ws

pub length_pairs : (a w : ℕ) → length (pairs a w) ≡ pair_count w
length_pairs a zero = refl
length_pairs a (suc w) =
    simp (length-append, length-map-range_with_len) (omega (arith, length_pairs (a + 1) w))

pub length_bays : (a : ℕ) (ws : List ℕ) → length (bays_rules a ws) ≡ rule_count ws
length_bays a [] = refl
length_bays a (w ∷ ws) =
    omega (
      arith,
      length-append (pairs a w) (bays_rules (a + w) ws),
      length_pairs a w,
      length_bays (a + w) ws,
      sum_by-cons bay_count w ws,
    )

pub pairs_few : (w : ℕ) → w ≤ MOST_WIDTH → pair_count w ≤ MOST_WIDTH * w
pairs_few zero h = omega arith
pairs_few (suc w) h = omega (arith, pairs_few w (omega arith))

-- what the test of the widths says, part by part
pub record BayParts (ws : List ℕ) : Type 0 where
  pub some : 1 ≤ length ws
  pub widths : AllByRecursion (λ w. (1 ≤ w) × (w ≤ MOST_WIDTH)) ws
  pub few : sum ws ≤ MOST_PARTS

widths_fit : (ws : List ℕ) → widths_in_range ws ≡ true
    → AllByRecursion (λ w. (1 ≤ w) × (w ≤ MOST_WIDTH)) ws
widths_fit [] h = tt
widths_fit (w ∷ ws) h = grind (arith, nat_tests, widths_fit ws)

pub bay_parts : (ws : List ℕ) → has_bay_book ws ≡ true → BayParts ws
bay_parts ws h =
    record {
      some = grind (arith, nat_tests);
      widths = widths_fit ws (grind arith);
      few = grind (arith, nat_tests);
    }

pub rules_few : (ws : List ℕ) → AllByRecursion (λ w. (1 ≤ w) × (w ≤ MOST_WIDTH)) ws
    → rule_count ws ≤ (MOST_WIDTH + 1) * sum ws
rules_few [] a = omega arith
rules_few (w ∷ ws) a =
    omega (
      arith,
      pairs_few w a.0.1,
      rules_few ws a.1,
      a.0.0,
      sum_by-cons bay_count w ws,
      sum_more w ws,
    )

parts_some : (ws : List ℕ) → 1 ≤ length ws → AllByRecursion (λ w. (1 ≤ w) × (w ≤ MOST_WIDTH)) ws
    → 1 ≤ sum ws
parts_some [] h a = absurd (omega arith)
parts_some (w ∷ ws) h a = omega (arith, a.0.0, sum_more w ws)

-- a part below a bay is not named by it
not_named : (p a w : ℕ) → p < a → names (some_in a w) p ≡ false
not_named p a zero h = refl
not_named p a (suc w) h = grind (arith, nat_tests, not_named p (a + 1) w)

in_sound : (n a w : ℕ) → 1 ≤ a → a + w ≤ suc n → sound_rule n (some_in a w) ≡ true
in_sound n a zero low high = refl
in_sound n a (suc w) low high =
    grind (arith, nat_tests, not_named a (a + 1) w, in_sound n (a + 1) w)

pair_sound : (n i j : ℕ) → 1 ≤ i → i < j → j ≤ n → sound_rule n (not_both i j) ≡ true
pair_sound n i j low rise high = grind (arith, nat_tests)

row_sound : (n i a w : ℕ) → 1 ≤ i → i < a → a + w ≤ suc n
    → sound_rules n (map (not_both i) (range_with_len a w)) ≡ true
row_sound n i a zero low rise high = refl
row_sound n i a (suc w) low rise high = grind (arith, pair_sound n i a, row_sound n i (a + 1) w)

pairs_sound : (n a w : ℕ) → 1 ≤ a → a + w ≤ suc n → sound_rules n (pairs a w) ≡ true
pairs_sound n a zero low high = refl
pairs_sound n a (suc w) low high =
    sound_rules-append n (map (not_both a) (range_with_len (a + 1) w)) (pairs (a + 1) w)
    (row_sound n a (a + 1) w low (omega arith) (omega arith))
    (pairs_sound n (a + 1) w (omega arith) (omega arith))

bays_sound : (n a : ℕ) (ws : List ℕ) → 1 ≤ a → a + sum ws ≤ suc n
    → sound_rules n (bays_rules a ws) ≡ true
bays_sound n a [] low high = refl
bays_sound n a (w ∷ ws) low high =
    let t = sum_more w ws in
    sound_rules-append n (bay_rules a w) (bays_rules (a + w) ws)
    (and_from _ _ (in_sound n a w low (omega arith)) (pairs_sound n a w low (omega arith)))
    (bays_sound n (a + w) ws (omega arith) (omega arith))

pub bay_sound : (ws : List ℕ) → has_bay_book ws ≡ true → Sound (bay_book ws)
bay_sound ws h =
    let f = bay_parts ws h in
    record {
      some = parts_some ws f.some f.widths;
      few = f.few;
      rules_few = omega (arith, length_bays 1 ws, rules_few ws f.widths, f.few);
      rules_sound = bays_sound (sum ws) 1 ws (omega arith) (omega arith);
    }
