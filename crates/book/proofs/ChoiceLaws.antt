-- The tests of choices say what the facts say; and a choice meets what the row that shows it meets.
use Rattle.std.proofs.Common.{◌≡◌, ℕ, zero, suc, ◌+◌, ◌-◌, ◌<◌, ◌≤◌, true, List, [], ◌∷◌, Some, sym, refl, arith}
use Rattle.std.specs.List.{All, Any, list_all, list_any, range_with_len, slice_get}
use Rattle.std.proofs.lemmas.Bool.{cases_Bool}
use Rattle.parts.specs.Codes.{code_of, side_of}
use Rattle.parts.specs.declared.mark.Mark.{Mark}
use Rattle.parts.specs.declared.side.Side.{Side}
use Rattle.parts.specs.declared.side.Side.TheVariants.{In, Out}
use Rattle.parts.specs.Distinct.{is_distinct}
use Rattle.parts.specs.Rows.{same_side}
use Rattle.parts.proofs.Among.{Among, all_among, among_all, any_among, among_any}
use Rattle.parts.proofs.DistinctLaws.{distinct_member}
use Rattle.book.specs.Meaning.{Rule}
use Rattle.book.specs.Choices.{Choice, Takes, Meets, Obeys, Keeps, takes, meets, obeys, keeps, shown, codes_of, row_of}

-- one side and another
same_is : (s v : Side) → same_side s v ≡ true → s ≡ v
same_is s v h = grind arith

pub takes_says : (f : Choice) (m : Mark) → takes f m ≡ true → Takes f m
takes_says f m h = same_is (f m.part) m.side h

pub takes_shows : (f : Choice) (m : Mark) → Takes f m → takes f m ≡ true
takes_shows f m h = grind arith

-- tests along a list, where each says what a fact says
module _ {A : Type 0} (p : A → _) (P : A → Type 0) where
  pub all_says : ((a : A) → p a ≡ true → P a) → (xs : List A) → list_all p xs ≡ true → (a : A) → Among a xs → P a
  all_says f [] h a i = absurd i
  all_says f (x ∷ xs) h a i = grind (arith, f a, all_says f xs)

  pub all_shows : ((a : A) → P a → p a ≡ true) → (xs : List A) → ((a : A) → Among a xs → P a) → list_all p xs ≡ true
  all_shows f [] h = refl
  all_shows f (x ∷ xs) h = grind (arith, f x, h x, all_shows f xs (λ a i. grind (arith, h a)))

  pub any_says : ((a : A) → p a ≡ true → P a) → (xs : List A) → list_any p xs ≡ true → (a : A) × Among a xs × P a
  any_says f [] h = grind arith
  any_says f (x ∷ xs) h = grind (arith, f x, any_says f xs)

  pub any_shows : ((a : A) → P a → p a ≡ true) → (xs : List A) (a : A) → Among a xs → P a → list_any p xs ≡ true
  any_shows f [] a i q = absurd i
  any_shows f (x ∷ xs) a i q = grind (arith, f a, any_shows f xs a)

pub meets_says : (f : Choice) (r : Rule) → meets f r ≡ true → Meets f r
meets_says f r h = let (m, i, t) = any_says (takes f) (Takes f) (takes_says f) r h in among_any (Takes f) r m i t

pub meets_shows : (f : Choice) (r : Rule) → Meets f r → meets f r ≡ true
meets_shows f r h = let (m, i, t) = any_among (Takes f) r h in any_shows (takes f) (Takes f) (takes_shows f) r m i t

pub obeys_says : (rs : List Rule) (f : Choice) → obeys rs f ≡ true → Obeys rs f
obeys_says rs f h = among_all (Meets f) rs (all_says (meets f) (Meets f) (meets_says f) rs h)

pub obeys_shows : (rs : List Rule) (f : Choice) → Obeys rs f → obeys rs f ≡ true
obeys_shows rs f h = all_shows (meets f) (Meets f) (meets_shows f) rs (all_among (Meets f) rs h)

pub keeps_says : (hs : List Mark) (f : Choice) → keeps hs f ≡ true → Keeps hs f
keeps_says hs f h = among_all (Takes f) hs (all_says (takes f) (Takes f) (takes_says f) hs h)

pub keeps_shows : (hs : List Mark) (f : Choice) → Keeps hs f → keeps hs f ≡ true
keeps_shows hs f h = all_shows (takes f) (Takes f) (takes_shows f) hs (all_among (Takes f) hs h)

-- the row of a choice shows that choice
code_back : (s : Side) → side_of (code_of s) ≡ Some s
code_back In = refl
code_back Out = refl

codes_at : (f : Choice) (from k i : ℕ) → i < k → slice_get (codes_of f (range_with_len from k)) i ≡ Some (code_of (f (from + i)))
codes_at f from zero i h = absurd (omega arith)
codes_at f from (suc k) zero h = grind arith
codes_at f from (suc k) (suc i) h = grind (arith, codes_at f (from + 1) k i)

pub shown-row_of : (n : ℕ) (f : Choice) (p : ℕ) → 1 ≤ p → p ≤ n → shown (row_of n f) p ≡ f p
shown-row_of n f zero lo hi = absurd (omega arith)
shown-row_of n f (suc i) lo hi = grind (arith, codes_at f 1 n i, code_back (f (suc i)))

-- so a rule over n parts is met by a choice exactly if it is by the choice that the row shows
pub meets-row_of : (n : ℕ) (f : Choice) (r : Rule) → is_distinct n r ≡ true → Meets f r → Meets (shown (row_of n f)) r
meets-row_of n f r s h =
    let (m, i, t) = any_among (Takes f) r h in
    let (lo, hi) = distinct_member n r m s i in
    among_any (Takes (shown (row_of n f))) r m i (grind (arith, shown-row_of n f m.part))
