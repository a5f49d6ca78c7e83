-- Marks that name parts from 1 to n, none twice: one more, fewer, joined, members, and how many they are at most.
use Rattle.std.proofs.Common.{◌≡◌, ℕ, suc, ◌+◌, ◌<◌, ◌≤◌, ◌≢◌, Bool, true, false, not, ◌&&◌, List, [], ◌∷◌, ◌++◌, length, refl, arith}
use Rattle.std.proofs.lemmas.Grind.{common_steps}
use Rattle.std.proofs.lemmas.Bool.Decides.{nat_tests}
use Rattle.parts.specs.Distinct.{names, is_part, is_distinct, can_hold, released}
use Rattle.parts.specs.declared.mark.Mark.{Mark}
use Rattle.parts.proofs.Among.{Among}
use Rattle.parts.proofs.Tally.{tally, tally_none, tally_le, tally_more}

-- a mark of a new part at the end
pub is_distinct_push : (n : ℕ) (ms : List Mark) (m : Mark) → is_distinct n ms ≡ true → 1 ≤ m.part → m.part ≤ n → names ms m.part ≡ false → is_distinct n (ms ++ m ∷ []) ≡ true
is_distinct_push n [] m s lo hi e = grind (arith, nat_tests)
is_distinct_push n (x ∷ ms) m s lo hi e = grind (arith, common_steps, is_distinct_push n ms m)

-- what two lists name together
pub names-append : (ms ks : List Mark) (p : ℕ) → names ms p ≡ false → names ks p ≡ false → names (ms ++ ks) p ≡ false
names-append [] ks p e f = f
names-append (x ∷ ms) ks p e f = grind (arith, names-append ms ks p)

-- two lists that share no part
pub is_distinct-append : (n : ℕ) (ms ks : List Mark) → is_distinct n ms ≡ true → is_distinct n ks ≡ true → ((p : ℕ) → names ms p ≡ true → names ks p ≡ false) → is_distinct n (ms ++ ks) ≡ true
is_distinct-append n [] ks s t apart = t
is_distinct-append n (x ∷ ms) ks s t apart = grind (arith, names-append ms ks x.part, apart x.part, is_distinct-append n ms ks (grind arith) t (λ p e. apart p (grind arith)))

-- a part taken out: what stays is distinct, and names no more
pub released_distinct : (n p : ℕ) (ms : List Mark) → is_distinct n ms ≡ true → (is_distinct n (released p ms) ≡ true) × ((q : ℕ) → names ms q ≡ false → names (released p ms) q ≡ false)
released_distinct n p [] s = (refl, λ q e. refl)
released_distinct n p (x ∷ ms) s = let (k, l) = released_distinct n p ms (grind arith) in (grind (arith, k, l), λ q e. grind (arith, l))

-- parts up to n are parts up to a greater number
pub is_distinct_more : (n k : ℕ) (ms : List Mark) → n ≤ k → is_distinct n ms ≡ true → is_distinct k ms ≡ true
is_distinct_more n k [] h s = refl
is_distinct_more n k (m ∷ ms) h s = grind (arith, nat_tests, is_distinct_more n k ms)

-- at most n parts are named
named_count : (n : ℕ) (ms : List Mark) → is_distinct n ms ≡ true → tally (names ms) 1 n ≡ length ms
named_count n [] s = tally_none (names []) 1 n (λ p. refl)
named_count n (m ∷ ms) s = grind (arith, nat_tests, tally_more (names ms) (names (m ∷ ms)) m.part 1 n (λ p ne. grind arith), named_count n ms)

pub distinct_length : (n : ℕ) (ms : List Mark) → is_distinct n ms ≡ true → length ms ≤ n
distinct_length n ms s = omega (arith, named_count n ms s, tally_le (names ms) 1 n)

-- one mark more has room
pub room : (n : ℕ) (ms : List Mark) (m : Mark) → is_distinct n ms ≡ true → 1 ≤ m.part → m.part ≤ n → names ms m.part ≡ false → length ms < n
room n ms m s lo hi e = grind (arith, common_steps, is_distinct_push n ms m, distinct_length n (ms ++ m ∷ []))

-- a member's part is from 1 to n, and it is named
pub distinct_member : (n : ℕ) (ms : List Mark) (m : Mark) → is_distinct n ms ≡ true → Among m ms → (1 ≤ m.part) × (m.part ≤ n)
distinct_member n [] m s i = absurd i
distinct_member n (x ∷ ms) m s i = grind (arith, nat_tests, distinct_member n ms m)

pub among_names : (ms : List Mark) (m : Mark) → Among m ms → names ms m.part ≡ true
among_names [] m i = absurd i
among_names (x ∷ ms) m i = grind (arith, among_names ms m)

-- members that name one part are one
pub distinct_once : (n : ℕ) (ms : List Mark) (g h : Mark) → is_distinct n ms ≡ true → Among g ms → Among h ms → g.part ≡ h.part → g ≡ h
distinct_once n [] g h s i j e = absurd i
distinct_once n (x ∷ ms) g h s i j e = grind (arith, among_names ms g, among_names ms h, distinct_once n ms g h)
