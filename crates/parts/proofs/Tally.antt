-- How many of the numbers i, i + 1, .., i + k - 1 pass a test.
use Rattle.std.proofs.Common.{◌≡◌, ℕ, zero, suc, ◌+◌, ◌<◌, ◌≤◌, Bool, true, false, cond, ◌≢◌, arith}

unfoldable pub tally : (ℕ → Bool) → ℕ → ℕ → ℕ
tally q i zero = 0
tally q i (suc k) = cond (q i) (suc (tally q (suc i) k)) (tally q (suc i) k)

pub tally_none : (q : ℕ → Bool) (i k : ℕ) → ((p : ℕ) → q p ≡ false) → tally q i k ≡ 0
unfolding tally
tally_none q i zero h = grind arith
tally_none q i (suc k) h = grind (arith, h i, tally_none q (suc i) k h)

pub tally_le : (q : ℕ → Bool) (i k : ℕ) → tally q i k ≤ k
unfolding tally
tally_le q i zero = grind arith
tally_le q i (suc k) = grind (arith, tally_le q (suc i) k)

pub tally_same : (q r : ℕ → Bool) (i k : ℕ) → ((p : ℕ) → i ≤ p → q p ≡ r p) → tally q i k ≡ tally r i k
unfolding tally
tally_same q r i zero h = grind arith
tally_same q r i (suc k) h = grind (arith, h i, tally_same q r (suc i) k (λ p l. h p (omega arith)))

-- one more number passes
pub tally_more : (q r : ℕ → Bool) (x i k : ℕ) → ((p : ℕ) → p ≢ x → r p ≡ q p) → q x ≡ false → r x ≡ true → i ≤ x → x < i + k
    → tally r i k ≡ suc (tally q i k)
unfolding tally
tally_more q r x i zero h qx rx l u = grind arith
tally_more q r x i (suc k) h qx rx l u = grind (arith, h i, tally_same r q (suc i) k, tally_more q r x (suc i) k h qx rx)

-- at most one more number passes
pub tally_most : (q r : ℕ → Bool) (x i k : ℕ) → ((p : ℕ) → p ≢ x → r p ≡ q p) → tally r i k ≤ suc (tally q i k)
unfolding tally
tally_most q r x i zero h = grind arith
tally_most q r x i (suc k) h = grind (arith, h i, tally_same r q (suc i) k, tally_most q r x (suc i) k h)

pub tally_free : (q : ℕ → Bool) (i k : ℕ) → tally q i k < k → (p : ℕ) × (q p ≡ false) × (i ≤ p) × (p < i + k)
unfolding tally
tally_free q i zero h = grind arith
tally_free q i (suc k) h = grind (arith, tally_free q (suc i) k)
