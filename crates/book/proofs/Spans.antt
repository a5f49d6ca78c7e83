-- Where a rule's marks begin and end, by the ends of the rule before and of its own.
use Rattle.std.proofs.Common.{◌≡◌, ℕ, zero, suc, ◌+◌, ◌-◌, ◌<◌, ◌≤◌, true, false, ◌&&◌, nat_le, List, [], ◌∷◌, map, length, get_or, take, drop, ℤ, Some, None, vec_items, sym, refl, ap, ◌∙◌, arith, length-take}
use Rattle.std.specs.Option.{option_map, unwrap_or}
use Rattle.std.specs.List.{slice_get}
use Rattle.std.specs.List.Sorted.{IsNonDecreasing}
use Rattle.std.proofs.lemmas.List.{at_drop_more, get_or-take, length-map, take-map, drop-map}
use Rattle.std.proofs.lemmas.Option.{slice_get-map, slice_get_past, unwrap_or-slice_get}
use Rattle.std.proofs.lemmas.Bool.Decides.{nat_tests}
use Rattle.parts.specs.declared.mark.Mark.{Mark}
use Rattle.parts.specs.Lists.{at_place}
use Rattle.book.specs.Meaning.{Rule, mark_of, sound_rule, sound_rules}
use Rattle.parts.specs.Marks.{mark_from}
use Rattle.book.specs.Tables.{cut, book_in, rising, marks_limit}
use Rattle.book.specs.Makes.{text_book}
use Rattle.book.specs.Proved.{BookParts, book_parts, length-cut}
use Rattle.book.specs.declared.text.TextBook.{TextBook}

-- an end, the one before, and those after
pub record Step (limit from to : ℕ) (after : List ℕ) : Type 0 where
  pub rises : from ≤ to
  pub within : to ≤ limit
  pub more : rising limit to after ≡ true

rising_low : (limit from : ℕ) (es : List ℕ) → rising limit from es ≡ true → from ≤ limit
rising_low limit from [] h = grind (arith, nat_tests)
rising_low limit from (e ∷ es) h = grind (arith, nat_tests, rising_low limit e es)

rising_step : (limit from e : ℕ) (es : List ℕ) → rising limit from (e ∷ es) ≡ true → Step limit from e es
rising_step limit from e es h = grind (arith, nat_tests, rising_low limit e es)

pub rising_more : (limit from : ℕ) (es : List ℕ) (i : ℕ) → i < length es → rising limit from (drop i es) ≡ true → Step limit from (get_or es i 0) (drop (i + 1) es)
rising_more limit from es i l h = rising_step limit from (get_or es i 0) (drop (i + 1) es) (sym (at_drop_more (rising limit from) es i 0 l) ∙ h)

-- the rules that the ends cut from one on are its rule and those after it
pub rules_drop : (n from : ℕ) (numbers : List ℤ) (es : List ℕ) (i : ℕ) → i < length es → sound_rules n (cut from (drop i es) (map mark_from numbers)) ≡ (sound_rule n (map mark_from (take (get_or es i 0 - from) (drop from numbers))) && sound_rules n (cut (get_or es i 0) (drop (i + 1) es) (map mark_from numbers)))
rules_drop n from numbers es i l = at_drop_more (λ xs. sound_rules n (cut from xs (map mark_from numbers))) es i 0 l ∙ simp (drop-map, take-map)

-- ends that do not fall rise to the limit exactly if the last is within it
rises_if_last : (limit from : ℕ) (es : List ℕ) → ((i j : ℕ) → i ≤ j → j < suc (length es) → get_or (from ∷ es) i 0 ≤ get_or (from ∷ es) j 0) → rising limit from es ≡ nat_le (get_or (from ∷ es) (length es) 0) limit
rises_if_last limit from [] s = refl
rises_if_last limit from (e ∷ es) s = grind (arith, nat_tests, s 0 1, rises_if_last limit e es (λ i j h l. s (suc i) (suc j) (omega arith) (omega arith)))

from_zero : (es : List ℕ) → IsNonDecreasing es → (i j : ℕ) → i ≤ j → j < suc (length es) → get_or (0 ∷ es) i 0 ≤ get_or (0 ∷ es) j 0
from_zero es s zero j h l = omega arith
from_zero es s (suc i) zero h l = absurd (omega arith)
from_zero es s (suc i) (suc j) h l = s i j 0 (omega arith) (omega arith)

last_or_zero : (es : List ℕ) → get_or (0 ∷ es) (length es) 0 ≡ unwrap_or (slice_get es (length es - 1)) 0
last_or_zero [] = refl
last_or_zero (e ∷ es) = grind (arith, unwrap_or-slice_get (e ∷ es) (length es) 0)

pub sorted_rises : (limit : ℕ) (es : List ℕ) → IsNonDecreasing es → rising limit 0 es ≡ nat_le (unwrap_or (slice_get es (length es - 1)) 0) limit
sorted_rises limit es s = rises_if_last limit 0 es (from_zero es s) ∙ ap (λ e. nat_le e limit) (last_or_zero es)

-- ends that fall somewhere do not rise
pub falls : (limit from : ℕ) (es : List ℕ) (k : ℕ) → k + 1 < length es → get_or es (k + 1) 0 < get_or es k 0 → rising limit from es ≡ false
falls limit from [] k l h = grind arith
falls limit from (e ∷ []) k l h = grind arith
falls limit from (e ∷ d ∷ es) zero l h = grind (arith, nat_tests)
falls limit from (e ∷ d ∷ es) (suc k) l h = grind (arith, nat_tests, falls limit e (d ∷ es) k)

-- the marks of a rule, counted from 1, begin and end at these places of all marks
record Spans (rules : List Rule) (ms : List Mark) (rule from to : ℕ) : Type 0 where
  pub rises : from ≤ to
  pub within : to ≤ length ms
  pub cuts : at_place rules rule ≡ Some (take (to - from) (drop from ms))

-- the rule at k, counted from 0
spans_at : (limit from : ℕ) (es : List ℕ) (ms : List Mark) (k : ℕ) → limit ≤ length ms → rising limit from es ≡ true → k < length es → Spans (cut from es ms) ms (suc k) (get_or (from ∷ es) k 0) (get_or es k 0)
spans_at limit from [] ms k l h i = grind arith
spans_at limit from (e ∷ es) ms zero l h i = grind (arith, rising_step limit from e es)
spans_at limit from (e ∷ es) ms (suc k) l h i = grind (arith, rising_step limit from e es, spans_at limit e es ms k)

-- what a book keeps
pub kept : (b : TextBook) → BookParts b.n b.rules (vec_items b.tables.marks) (vec_items b.tables.ends)
kept b = book_parts _ _ _ _ b.whole

-- the ends that count, after 0
used_end : (m k : ℕ) (es : List ℕ) → k ≤ m → get_or (0 ∷ take m es) k 0 ≡ get_or (0 ∷ es) k 0
used_end m k es l = get_or-take (suc m) (0 ∷ es) k 0 (omega arith)

-- a rule of a laid book is these marks of the table, which begin and end where the table of ends says
pub record Cut (b : TextBook) (rule from to : ℕ) : Type 0 where
  pub rises : from ≤ to
  pub within : to ≤ length (vec_items b.tables.marks)
  pub cuts : at_place (text_book b).rules rule ≡ Some (map mark_from (take (to - from) (drop from (vec_items b.tables.marks))))

pub cut_at : (b : TextBook) (rule : ℕ) → (rule ≡ 0 → ⊥) → rule ≤ b.rules → Cut b rule (get_or (0 ∷ vec_items b.tables.ends) (rule - 1) 0) (get_or (0 ∷ vec_items b.tables.ends) rule 0)
cut_at b zero h l = grind arith
cut_at b (suc k) h l =
    let marks = vec_items b.tables.marks in
    let ends = vec_items b.tables.ends in
    let s = spans_at (marks_limit (length marks)) 0 (take b.rules ends) (map mark_from marks) k in
    grind (arith, s, kept b, length-map marks mark_from, length-take b.rules ends, used_end b.rules k ends, used_end b.rules (suc k) ends l, drop-map, take-map)

pub rules_counted : (b : TextBook) → length (text_book b).rules ≡ b.rules
rules_counted b = let n = (kept b).rules_ended in simp (length-cut, length-take) (omega arith)

-- a number that no rule of the book has
pub no_rule : (b : TextBook) (rule : ℕ) → (1 ≤ rule → b.rules < rule) → at_place (text_book b).rules rule ≡ None
no_rule b zero h = refl
no_rule b (suc k) h = grind (arith, rules_counted b, slice_get_past (text_book b).rules k)

-- a mark of a rule by its place
pub mark_at : (rules : List Rule) (rule place : ℕ) (numbers : List ℤ) → at_place rules rule ≡ Some (map mark_from numbers) → (place ≡ 0 → ⊥) → mark_of rules rule place ≡ option_map mark_from (slice_get numbers (place - 1))
mark_at rules rule zero numbers h p = grind arith
mark_at rules rule (suc k) numbers h p = grind (arith, slice_get-map mark_from numbers k)
