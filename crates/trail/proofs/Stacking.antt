-- One entry more, or less, on the trail.
use Rattle.std.proofs.Common.{◌≡◌, ℕ, ◌+◌, ◌-◌, ◌<◌, ◌≤◌, true, false, List, [], ◌∷◌, ◌++◌, reverse, length, get_or, take, set, is_some, Some, None, refl, arith}
use Rattle.std.proofs.lemmas.List.{ext_get_or, length-reverse, reverse-append}
use Rattle.std.proofs.lemmas.Grind.{common_steps}
use Rattle.std.proofs.lemmas.Bool.Decides.{nat_tests}
use Rattle.parts.specs.Codes.{code_of}
use Rattle.parts.specs.declared.limits.TheConstants.{MOST_PARTS}
use Rattle.parts.specs.declared.side.Side.TheVariants.{In}
use Rattle.parts.specs.Distinct.{names, is_distinct}
use Rattle.parts.specs.Rows.{Row}
use Rattle.parts.proofs.DistinctLaws.{room as room_for, is_distinct_more}
use Rattle.search.specs.declared.entry.Entry.{Entry}
use Rattle.search.specs.Trail.{settled, code, row as row_of}
use Rattle.search.proofs.Settled as rows
use Rattle.search.proofs.Settled.{length_row, row_at}
use Rattle.trail.specs.Settling.{IsTrail, can_settle, marks_of}
use Rattle.parts.specs.declared.mark.Mark.{Mark}
use Rattle.search.specs.declared.entry.Kind.{Kind}

-- a part is settled where it is named
pub settled_names : (t : List Entry) (p : ℕ) → names (marks_of t) p ≡ is_some (settled t p)
unfolding settled
settled_names [] p = refl
settled_names (x ∷ t) p = grind (arith, settled_names t p)

-- there is room on a trail where some part is open
room_on : (n : ℕ) (t : List Entry) (row : Row) (p : ℕ) → IsTrail n t row → settled t p ≡ None → 1 ≤ p → p ≤ n → length t < MOST_PARTS
room_on n t row p w e lo hi = grind (arith, common_steps, settled_names t p, room_for n (marks_of t) (record { part = p; side = In }), w.few, w.apart)

-- a part outside 1 to n is not settled
pub open_outside : (n : ℕ) (t : List Entry) (p : ℕ) → is_distinct n (marks_of t) ≡ true → (1 ≤ p → p ≤ n → ⊥) → settled t p ≡ None
unfolding settled
open_outside n [] p s out = refl
open_outside n (x ∷ t) p s out = grind (arith, nat_tests, open_outside n t p)

-- the row with one part more, and without it again
module _ (n : ℕ) (e : Entry) (t : List Entry) (lo : 1 ≤ e.mark.part) (hi : e.mark.part ≤ n) where
  row_push : set (row_of n t) (e.mark.part - 1) (code_of e.mark.side) ≡ row_of n (e ∷ t)
  unfolding settled
  row_push = ext_get_or 0 _ _ (grind (arith, common_steps, length_row)) (λ p h. grind (arith, common_steps, length_row, row_at))

  row_pop : settled t e.mark.part ≡ None → set (row_of n (e ∷ t)) (e.mark.part - 1) 0 ≡ row_of n t
  row_pop o = rw (← row_push) (ext_get_or 0 _ _ (grind (arith, common_steps, length_row)) (λ p h. grind (arith, common_steps, length_row, row_at)))

-- one entry more, on an open part
pub pushed : (n : ℕ) (t : List Entry) (row : Row) (e : Entry) → IsTrail n t row → settled t e.mark.part ≡ None → 1 ≤ e.mark.part → e.mark.part ≤ n
    → IsTrail n (e ∷ t) (set row (e.mark.part - 1) (code_of e.mark.side))
pushed n t row e w o lo hi =
    record { few = w.few; apart = grind (arith, nat_tests, w.apart, settled_names t e.mark.part); shows = rw w.shows (row_push MOST_PARTS e t lo (omega (arith, w.few))) }

-- the newest entry taken off
pub popped : (n : ℕ) (t : List Entry) (row : Row) (e : Entry) → IsTrail n (e ∷ t) row
    → (1 ≤ e.mark.part) × (e.mark.part ≤ n) × IsTrail n t (set row (e.mark.part - 1) 0)
popped n t row e w =
    let lo : 1 ≤ e.mark.part = grind (arith, nat_tests, w.apart) in
    let hi : e.mark.part ≤ n = grind (arith, nat_tests, w.apart) in
    let o : settled t e.mark.part ≡ None = grind (arith, w.apart, settled_names t e.mark.part) in
    (lo, hi, record { few = w.few; apart = grind (arith, w.apart); shows = rw w.shows (row_pop MOST_PARTS e t lo (omega (arith, w.few)) o) })

-- and its part is open again
pub vacated : (n : ℕ) (t : List Entry) (row : Row) (e : Entry) → IsTrail n (e ∷ t) row → can_settle (record { n = n; entries = t }) e.mark ≡ true
vacated n t row e w = grind (arith, nat_tests, w.apart, settled_names t e.mark.part)

-- the front of the row is the row of n parts
pub row_front : (n : ℕ) (t : List Entry) (row : Row) → IsTrail n t row → take n row ≡ row_of n t
row_front n t row w = rw w.shows (rows.row_front n MOST_PARTS t w.few)

-- where a mark may be settled there is room, and the trail with it is one
module _ (n : ℕ) (es : List Entry) (row : Row) (m : Mark) (w : IsTrail n (reverse es) row) (can : can_settle (record { n = n; entries = reverse es }) m ≡ true) where
  pub room : length es < MOST_PARTS
  room = omega (arith, length-reverse es, room_on n (reverse es) row m.part w (grind arith) (grind (arith, nat_tests)) (grind (arith, nat_tests)))

  pub grown : (k : Kind) → IsTrail n (reverse (es ++ record { mark = m; kind = k } ∷ [])) (set row (m.part - 1) (code_of m.side))
  grown k = rw reverse-append (pushed n (reverse es) row (record { mark = m; kind = k }) w (grind arith) (grind (arith, nat_tests)) (grind (arith, nat_tests)))
