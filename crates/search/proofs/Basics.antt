-- Opposites, numbers in a range, what is found along a list, and lists by place.
use Rattle.std.proofs.Common.{◌≡◌, ℕ, zero, suc, ◌+◌, ◌<◌, ◌≤◌, Bool, true, false, cond, eqb, List, [], ◌∷◌, length, set, Some, None, inl, inr, arith}
use Rattle.std.specs.List.{filter, find, list_all, range_with_len, slice_get}
use Rattle.std.proofs.lemmas.Grind.{common_steps}
use Rattle.std.proofs.lemmas.Option.{gets}
use Rattle.parts.specs.Marks.{opposite_of}
use Rattle.parts.specs.declared.mark.Mark.{Mark}
use Rattle.parts.specs.Lists.{at_place}
use Rattle.parts.proofs.Among.{Among}

-- opposites
pub twice_opposite : (x y : Mark) → y ≡ opposite_of x → x ≡ opposite_of y
twice_opposite x y e = grind arith

-- the numbers of a range
pub among_range : (i k p : ℕ) → i ≤ p → p < i + k → Among p (range_with_len i k)
among_range i zero p l u = grind arith
among_range i (suc k) p l u = grind (arith, among_range (i + 1) k p)

pub range_among : (i k p : ℕ) → Among p (range_with_len i k) → (i ≤ p) × (p < i + k)
range_among i zero p h = absurd h
range_among i (suc k) p h = grind (arith, range_among (i + 1) k p)

-- what is found along a list
pub find_some : {A : Type 0} (q : A → Bool) (xs : List A) (x : A) → find q xs ≡ Some x → Among x xs × (q x ≡ true)
find_some q [] x h = grind arith
find_some q (y ∷ xs) x h = grind (arith, find_some q xs x)

pub find_none : {A : Type 0} (q : A → Bool) (xs : List A) → find q xs ≡ None → (x : A) → Among x xs → q x ≡ false
find_none q [] h x i = absurd i
find_none q (y ∷ xs) h x i = grind (arith, find_none q xs)

-- items by place
pub item_set : {A : Type 0} (s : List A) (i j : ℕ) (v : A) → i < length s → slice_get (set s i v) j ≡ cond (eqb j i) (Some v) (slice_get s j)
item_set s i j v h = grind (arith, common_steps, gets)

pub place_within : {A : Type 0} (xs : List A) (i : ℕ) (x : A) → at_place xs i ≡ Some x → (1 ≤ i) × (i ≤ length xs)
place_within xs i x h = grind (arith, common_steps, gets)

-- what stands at a place is in the list, and what is in the list stands at a place
pub place_among : {A : Type 0} (xs : List A) (i : ℕ) (x : A) → at_place xs i ≡ Some x → Among x xs
place_among xs zero x h = grind arith
place_among [] (suc i) x h = grind arith
place_among (a ∷ xs) (suc zero) x h = grind arith
place_among (a ∷ xs) (suc (suc i)) x h = grind (arith, place_among xs (suc i) x)

pub among_place : {A : Type 0} (xs : List A) (x : A) → Among x xs → (j : ℕ) × (at_place xs (suc j) ≡ Some x)
among_place [] x h = absurd h
among_place (a ∷ xs) x (inl q) = (0, cc)
among_place (a ∷ xs) x (inr i) = let (j, e) = among_place xs x i in (suc j, e)

-- what passes a test along a list
pub filter_among : {A : Type 0} (q : A → Bool) (xs : List A) (x : A) → Among x (filter q xs) → Among x xs × (q x ≡ true)
filter_among q [] x h = absurd h
filter_among q (y ∷ xs) x h = grind (arith, filter_among q xs x)

pub among_filter : {A : Type 0} (q : A → Bool) (xs : List A) (x : A) → Among x xs → q x ≡ true → Among x (filter q xs)
among_filter q [] x i h = absurd i
among_filter q (y ∷ xs) x i h = grind (arith, among_filter q xs x)

pub all_pass : {A : Type 0} (q : A → Bool) (xs : List A) → list_all q xs ≡ true → (x : A) → Among x xs → q x ≡ true
all_pass q [] h x i = absurd i
all_pass q (y ∷ xs) h x i = grind (arith, all_pass q xs)
