-- Membership by recursion, which inductions over a list use, beside std's words by index.
use Rattle.std.proofs.Common.{◌≡◌, ℕ, zero, suc, ◌<◌, ◌⊎◌, List, [], ◌∷◌, ◌++◌, map, length, get_or, refl, sym, inl, inr, arith, subst}
use Rattle.std.specs.List.{All, Any, Contains}
use Rattle.std.proofs.lemmas.List.Elements.{All-cons, All-head, All-tail, All-contains}

abbrev pub Among : {A : Type 0} → A → List A → Type 0
Among a [] = ⊥
Among a (x ∷ xs) = (a ≡ x) ⊎ Among a xs

-- a member stands at some index
pub among_at : {A : Type 0} (xs : List A) (a : A) → Among a xs → (k : ℕ) × (k < length xs) × (get_or xs k a ≡ a)
among_at [] a h = absurd h
among_at (x ∷ xs) a (inl e) = (0, omega arith, sym e)
among_at (x ∷ xs) a (inr i) = let (k, l, e) = among_at xs a i in (suc k, omega arith, e)

pub at_among : {A : Type 0} (xs : List A) (k : ℕ) (a : A) → k < length xs → get_or xs k a ≡ a → Among a xs
at_among [] k a l e = absurd (omega arith)
at_among (x ∷ xs) zero a l e = inl (sym e)
at_among (x ∷ xs) (suc k) a l e = inr (at_among xs k a (omega arith) e)

pub contains_among : {A : Type 0} (xs : List A) (a : A) → Contains xs a → Among a xs
contains_among xs a (k, l, e) = at_among xs k a l e

module _ {A : Type 0} (P : A → Type 0) where
  -- what holds of each element, and of some element
  pub all_among : (xs : List A) → All P xs → (a : A) → Among a xs → P a
  all_among xs h a i = All-contains P xs a h (among_at xs a i)

  pub among_all : (xs : List A) → ((a : A) → Among a xs → P a) → All P xs
  among_all [] h = λ k d l. absurd (omega arith)
  among_all (x ∷ xs) h = All-cons P x xs (h x (inl refl)) (among_all xs (λ a i. h a (inr i)))

  pub any_among : (xs : List A) → Any P xs → (a : A) × Among a xs × P a
  any_among xs (k, a, l, e, p) = (a, at_among xs k a l e, p)

  pub among_any : (xs : List A) (a : A) → Among a xs → P a → Any P xs
  among_any xs a i p = let (k, l, e) = among_at xs a i in (k, a, l, e, p)

-- members of joined lists, and of a mapped one
pub among_left : {A : Type 0} (r s : List A) (m : A) → Among m r → Among m (r ++ s)
among_left [] s m h = absurd h
among_left (x ∷ r) s m h = grind (arith, among_left r s m)

pub among_right : {A : Type 0} (r s : List A) (m : A) → Among m s → Among m (r ++ s)
among_right [] s m h = h
among_right (x ∷ r) s m h = grind (arith, among_right r s m)

pub among_either : {A : Type 0} (r s : List A) (m : A) → Among m (r ++ s) → Among m r ⊎ Among m s
among_either [] s m h = grind arith
among_either (x ∷ r) s m h = grind (arith, among_either r s m)

pub among_map : {A B : Type 0} (f : A → B) (xs : List A) (a : A) → Among a xs → Among (f a) (map f xs)
among_map f [] a h = absurd h
among_map f (x ∷ xs) a h = grind (arith, among_map f xs a)
