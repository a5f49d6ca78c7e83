-- The settled row: its codes, and the choice that it shows; and the parts that a lawful bench speaks of.
use Rattle.std.proofs.Common.{◌≡◌, ℕ, zero, suc, ◌+◌, ◌-◌, ◌<◌, ◌≤◌, true, false, not, eqb, ◌≢◌, map, length, get_or, take, Some, None, arith}
use Rattle.std.specs.List.{range_with_len}
use Rattle.std.proofs.lemmas.List.FromFn.{length-map-range_with_len, get_or-map-range_with_len, take-map-range_with_len}
use Rattle.std.proofs.lemmas.Option.{slice_get-get_or}
use Rattle.parts.specs.Codes.{all_codes, is_row}
use Rattle.parts.specs.Lists.{at_place}
use Rattle.parts.specs.Rows.{is_full}
use Rattle.parts.specs.declared.side.Side.{Side}
use Rattle.parts.proofs.Among.{Among}
use Rattle.parts.proofs.DistinctLaws.{distinct_member}
use Rattle.parts.proofs.RowWords.{none_open}
use Rattle.book.specs.Choices.{shown}
use Rattle.book.specs.Meaning as books
use Rattle.book.specs.Meaning.{Rule, sound_rule}
use Rattle.book.specs.Proved.{rule_distinct}
use Rattle.picker.specs.Meaning as pickers
use Rattle.picker.specs.Meaning.{is_answered}
use Rattle.search.specs.Trail.{Trail, settled, code, row}
use Rattle.search.specs.Machine.{Bench}
use Rattle.search.proofs.Basics.{place_among, all_pass}
use Rattle.search.proofs.Invariant.{Ranged}

-- what stands in the settled row, by index, whatever stands outside; and by part
pub row_at : (n : ℕ) (t : Trail) (i d : ℕ) → i < n → get_or (row n t) i d ≡ code (settled t (suc i))
unfolding row
row_at n t i d h = get_or-map-range_with_len (λ p. code (settled t p)) 1 n i (suc i) d h (omega arith)

pub length_row : (n : ℕ) (t : Trail) → length (row n t) ≡ n
unfolding row
length_row n t = length-map-range_with_len (λ p. code (settled t p)) 1 n

pub place_row : (n : ℕ) (t : Trail) (p : ℕ) → 1 ≤ p → p ≤ n → at_place (row n t) p ≡ Some (code (settled t p))
place_row n t zero a b = absurd (omega arith)
place_row n t (suc i) a b = grind (arith, row_at n t i 0, length_row n t, slice_get-get_or (row n t) i 0)

-- the front of a longer row
pub row_front : (n k : ℕ) (t : Trail) → n ≤ k → take n (row k t) ≡ row n t
unfolding row
row_front n k t h = take-map-range_with_len (λ p. code (settled t p)) 1 k n h

-- the settled row is a row of n codes
codes_from : (t : Trail) (i k : ℕ) → all_codes (map (λ p. code (settled t p)) (range_with_len i k)) ≡ true
codes_from t i zero = grind arith
codes_from t i (suc k) = grind (arith, codes_from t (i + 1) k)

pub settled_row : (n : ℕ) (t : Trail) → is_row n (row n t) ≡ true
unfolding row
settled_row n t = grind (arith, length_row n t, codes_from t 1 n)

-- in a row with no open part each part is settled
pub row_settled : (n : ℕ) (t : Trail) (p : ℕ) → is_full (row n t) ≡ true → 1 ≤ p → p ≤ n → settled t p ≢ None
row_settled n t p h a b = grind (arith, all_pass (λ c. not (eqb c 0)) (row n t) h (code (settled t p)), place_among (row n t) p (code (settled t p)), place_row n t p)

-- the choice that a settled row shows
pub shown_settled : (n : ℕ) (t : Trail) (p : ℕ) (s : Side) → 1 ≤ p → p ≤ n → settled t p ≡ Some s → shown (row n t) p ≡ s
shown_settled n t p s a b h = grind (arith, place_row n t p)

-- the rules of a lawful bench are over its parts
pub within : (b : Bench) → books.Sound b.book → (r : Rule) → Among r b.book.rules → Ranged b.book.n r
within b law r i y = distinct_member b.book.n r y (rule_distinct b.book.n r (all_pass (sound_rule b.book.n) b.book.rules law.rules_sound r i))

-- a picker of n parts has an answer for a settled row with an open part, and picks an open one
pub answer_some : (n : ℕ) (t : Trail) → is_full (row n t) ≡ false → is_answered n (row n t) ≡ true
answer_some n t h = grind (arith, settled_row n t, none_open (row n t))

pub answer_open : (n : ℕ) (t : Trail) (p : ℕ) → pickers.Free n (row n t) p → settled t p ≡ None
answer_open n t p f = grind (arith, row_at n t (p - 1) 1)
