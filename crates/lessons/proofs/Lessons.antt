-- The open marks of a lesson, the places that are asked in turn, and the places that forgetting leaves.
use Rattle.std.proofs.Common.{◌≡◌, ℕ, zero, suc, ◌+◌, ◌-◌, ◌<◌, ◌≤◌, Bool, false, not, cond, List, [], ◌∷◌, ◌++◌, slice_get, length, take, drop, Some, None, Ok, Option, MatchOption, unwrap_or, refl, arith}
use Rattle.std.specs.List.{find, range_with_len}
use Rattle.std.proofs.iter.runs.Sources.{nat_range_inclusive_steps}
use Rattle.std.specs.Range.{range_inclusive_start, range_inclusive_end, range_inclusive_exhausted, range_inclusive_left}
use Rattle.std.specs.declared.ops.RangeInclusive.{RangeInclusive}
use Rattle.std.proofs.lemmas.Iterator.{YieldsList}
use Rattle.std.proofs.lemmas.Iterator.Consumers.{YieldsList-from_shown}
use Rattle.std.proofs.lemmas.List.{at_drop_more}
use Rattle.std.proofs.lemmas.Grind.{common_steps}
use Rattle.std.proofs.lemmas.Option.{gets, slice_get_within, get_or_from_slice_get}
use Rattle.std.proofs.lemmas.List.Sums.{count_by_more_yes, count_by_more_no}
use Rattle.std.proofs.lemmas.Bool.Decides.{nat_tests}
use Rattle.parts.specs.Lists.{at_place}
use Rattle.parts.specs.Rows.{Row, row_marks}
use Rattle.parts.specs.declared.mark.Mark.{Mark}
use Rattle.shelf.specs.Meaning.{Shelved, row_at, marks_of_place, mark_of_place, place_emptied}
use Rattle.search.specs.declared.forgetting.Forgetting.{Forgetting}
use Rattle.search.specs.declared.forgetting.Forgetting.TheVariants.{KeepAll}
use Rattle.search.specs.Trail.{Trail, truth, says_open}
use Rattle.search.specs.Machine.{Places, is_empty, needed, around, next_place, open_count, drops, sweep}

-- a range that no item was taken from yields its numbers
pub YieldsList-from_inclusive : {s : RangeInclusive ℕ} {a b : ℕ} (xs : List ℕ)
    → (e : record { start : range_inclusive_start s ≡ a; end : range_inclusive_end s ≡ b; exhausted : range_inclusive_exhausted s ≡ false }) → range_with_len a (b + 1 - a) ≡ xs
    → YieldsList nat_range_inclusive_steps (λ x. x) s xs
YieldsList-from_inclusive {s = s} xs e h =
    let shown : RangeInclusive ℕ → List ℕ = λ s. range_with_len (range_inclusive_start s) (range_inclusive_left (λ a b. b - a) s) in
    let y : shown s ≡ xs = grind arith in
    rw (← y) (YieldsList-from_shown nat_range_inclusive_steps (λ x. x) shown (λ s t h. grind arith) (λ s x t h. grind arith) s)

-- the marks of the lesson in a place; none where it is empty
abbrev pub marks_on : Shelved → ℕ → List Mark
marks_on s place = row_marks (unwrap_or (row_at s place) [])

got : {X : Type 0} (k : ℕ) (xs : List X) → k < length xs → (x : X) × (slice_get xs k ≡ Some x)
got k [] l = absurd (omega arith)
got zero (x ∷ xs) l = (x, refl)
got (suc k) (x ∷ xs) l = got k xs (omega arith)

open_step : (now : Row) (ms : List Mark) (k : ℕ) (m : Mark) → slice_get ms k ≡ Some m → open_count now (take (k + 1) ms) ≡ open_count now (take k ms) + cond (says_open (truth now m)) 1 0
unfolding open_count
open_step now ms k m h =
    let p = λ (m : Mark). says_open (truth now m) in
    let l = slice_get_within ms k m h in
    let x = get_or_from_slice_get ms k m m h in
    grind (arith, l, x, count_by_more_yes p ms k m l, count_by_more_no p ms k m l)

pub open_none : (now : Row) → 0 ≡ open_count now []
unfolding open_count
open_none now = refl

-- the open marks of a lesson among so many of its marks
module _ (now : Row) (s : Shelved) (place : ℕ) where
  more_open : (k : ℕ) (m : Mark) (o : Option Row) → row_at s place ≡ o → Ok (Some m) ≡ mark_of_place s place (k + 1)
      → open_count now (take (k + 1) (marks_on s place)) ≡ open_count now (take k (marks_on s place)) + cond (says_open (truth now m)) 1 0
  more_open k m None r e = absurd (grind arith)
  more_open k m (Some row) r e =
      let at : slice_get (row_marks row) k ≡ Some m = grind arith in
      let on : marks_on s place ≡ row_marks row = rw r refl in
      rw on (open_step now (row_marks row) k m at)

  pub open_more : (k : ℕ) (m : Mark) → Ok (Some m) ≡ mark_of_place s place (k + 1)
      → open_count now (take (k + 1) (marks_on s place)) ≡ open_count now (take k (marks_on s place)) + cond (says_open (truth now m)) 1 0
  open_more k m e = more_open k m (row_at s place) refl e

  counted : (n : ℕ) (o : Option Row) → row_at s place ≡ o → Ok (Some n) ≡ marks_of_place s place → n ≡ length (marks_on s place)
  counted n None r e = absurd (grind arith)
  counted n (Some row) r e = grind arith

  pub open_end : (n k : ℕ) → Ok (Some n) ≡ marks_of_place s place → n ≤ k → open_count now (take k (marks_on s place)) ≡ open_count now (marks_on s place)
  open_end n k e l = let c = counted n (row_at s place) refl e in grind (arith, common_steps)

-- there is a mark after fewer than were counted
there_is : (s : Shelved) (place n k : ℕ) (o : Option Row) → row_at s place ≡ o → Ok (Some n) ≡ marks_of_place s place → k < n → (m : Mark) × (mark_of_place s place (k + 1) ≡ Ok (Some m))
there_is s place n k None r e l = absurd (grind arith)
there_is s place n k (Some row) r e l = let m : (m : Mark) × (slice_get (row_marks row) k ≡ Some m) = got k (row_marks row) (grind arith) in (m.0, grind (arith, m.1))

pub there_is_one : (s : Shelved) (place n k : ℕ) → Ok (Some n) ≡ marks_of_place s place → k < n → (m : Mark) × (mark_of_place s place (k + 1) ≡ Ok (Some m))
there_is_one s place n k e l = there_is s place n k (row_at s place) refl e l

-- the place written, by what the two searches find: the next empty place, and the next that is no reason on the trail
pub placed : (s : Places) (last : ℕ) (t : Trail) (a r : Option ℕ) → a ≡ find (λ p. is_empty (at_place s p)) (around last (length s))
    → MatchOption a (r ≡ find (λ p. not (needed t p)) (around last (length s))) (λ p. r ≡ Some p) → r ≡ next_place s last t
unfolding next_place
placed s last t a r e h = grind arith

-- the rule that keeps all
pub all_kept : (now : Row) (t : Trail) (i : ℕ) (rows : Places) → sweep KeepAll now t i rows ≡ rows
unfolding sweep drops
all_kept now t i [] = refl
all_kept now t i (o ∷ rows) = grind (arith, all_kept now t (i + 1) rows)

-- a shelf whose first i places are swept, and those from i on still to be swept
pub record SweptTo (f : Forgetting) (now : Row) (t : Trail) (old : Shelved) (i : ℕ) (s : Shelved) : Type 0 where
  pub same : s.n ≡ old.n
  pub long : length s.rows ≡ length old.rows
  pub rest : take i s.rows ++ sweep f now t (i + 1) (drop i s.rows) ≡ sweep f now t 1 old.rows

-- one place on, and past the last
module _ (f : Forgetting) (now : Row) (t : Trail) (old : Shelved) (i : ℕ) (s : Shelved) (d : SweptTo f now t old i s) where
  pub one_swept : (s' : Shelved) → i < length old.rows → s' ≡ cond (drops f now t (i + 1) (row_at s (i + 1))) (place_emptied s (i + 1)) s → SweptTo f now t old (i + 1) s'
  unfolding sweep
  one_swept s' h e = let more = at_drop_more (sweep f now t (i + 1)) s.rows i None in grind (arith, common_steps, gets, nat_tests, d, more)

  pub all_swept : length old.rows ≤ i → s.rows ≡ sweep f now t 1 old.rows
  unfolding sweep
  all_swept h = grind (arith, common_steps)
