-- Tables filled from a list of rules, whatever stands after them: a book may be laid over them, and it is these rules.
use Rattle.std.proofs.Common.{◌≡◌, ℕ, suc, ◌+◌, ◌-◌, ◌≤◌, true, List, [], ◌∷◌, ◌++◌, map, length, ℤ, refl, ap, ◌∙◌, arith, length-append}
use Rattle.std.proofs.lemmas.List.{append_assoc, map-append, length-map, take_at, drop_at}
use Rattle.std.proofs.lemmas.Bool.Decides.{nat_tests}
use Rattle.std.proofs.lemmas.Bool.{and_from, le-leb}
use Rattle.parts.specs.declared.mark.Mark.{Mark}
use Rattle.parts.specs.declared.side.Side.{Side}
use Rattle.book.specs.Meaning.{Rule, count_marks, sound_rules}
use Rattle.book.specs.Proved.{rule_distinct}
use Rattle.parts.specs.declared.limits.TheConstants.{MOST_PARTS, MOST_TEXT_RULES, MOST_TEXT_MARKS}
use Rattle.parts.specs.Distinct.{is_distinct}
use Rattle.parts.specs.Marks.{mark_from, on_side, number_from}
use Rattle.book.specs.Tables.{cut, book_in, rising, marks_limit, has_book, mark_table, end_table}

-- a mark comes back from its number, unless it is part 0 out
mark_back : (s : Side) (p : ℕ) → 1 ≤ p → mark_from (on_side s p) ≡ record { part = p; side = s }
mark_back s p h = grind arith

rule_back : (n : ℕ) (r : Rule) → is_distinct n r ≡ true → map mark_from (map number_from r) ≡ r
rule_back n [] h = refl
rule_back n (m ∷ r) h = grind (arith, nat_tests, mark_back m.side m.part, rule_back n r)

pub length_ends : (from : ℕ) (rs : List Rule) → length (end_table from rs) ≡ length rs
length_ends from [] = refl
length_ends from (r ∷ rs) = ap suc (length_ends (from + length r) rs)

pub length_marks : (rs : List Rule) → length (mark_table rs) ≡ count_marks rs
length_marks [] = refl
length_marks (r ∷ rs) = length-append (map number_from r) (mark_table rs) ∙ rw (length-map, length_marks rs)

ends_rise : (limit from : ℕ) (rs : List Rule) → from + count_marks rs ≤ limit → rising limit from (end_table from rs) ≡ true
ends_rise limit from [] h = le-leb from limit (omega arith)
ends_rise limit from (r ∷ rs) h = and_from _ _ (le-leb from (from + length r) (omega arith)) (ends_rise limit (from + length r) rs (omega arith))

-- the rules are cut again, after any marks
cut_back : (n from : ℕ) (before : List Mark) (rs : List Rule) (marks' : List ℤ) → length before ≡ from → sound_rules n rs ≡ true → cut from (end_table from rs) (before ++ map mark_from (mark_table rs ++ marks')) ≡ rs
cut_back n from before [] marks' l h = refl
cut_back n from before (r ∷ rs) marks' l h =
    let rest = map mark_from (mark_table rs ++ marks') in
    grind (
      arith,
      nat_tests,
      rule_distinct n r,
      rule_back n r,
      append_assoc (map number_from r) (mark_table rs) marks',
      map-append mark_from (map number_from r) (mark_table rs ++ marks'),
      drop_at before (r ++ rest) from l,
      take_at r rest (from + length r - from),
      length-append before r,
      append_assoc before r rest,
      cut_back n (from + length r) (before ++ r) rs marks',
    )

pub book_in_filled : (n : ℕ) (rs : List Rule) (marks' : List ℤ) (ends' : List ℕ) → sound_rules n rs ≡ true → book_in n (length rs) (mark_table rs ++ marks') (end_table 0 rs ++ ends') ≡ record { n = n; rules = rs }
book_in_filled n rs marks' ends' h = rw (take_at (end_table 0 rs) ends' (length rs) (length_ends 0 rs), cut_back n 0 [] rs marks' refl h)

pub has_book_filled : (n : ℕ) (rs : List Rule) (marks' : List ℤ) (ends' : List ℕ) → 1 ≤ n → n ≤ MOST_PARTS → length rs ≤ MOST_TEXT_RULES → count_marks rs ≤ MOST_TEXT_MARKS → sound_rules n rs ≡ true → has_book n (length rs) (mark_table rs ++ marks') (end_table 0 rs ++ ends') ≡ true
has_book_filled n rs marks' ends' some few rules_few marks_few h =
    let limit = marks_limit (length (mark_table rs ++ marks')) in
    let room : count_marks rs ≤ limit = simp (length-append, length_marks) (omega arith) in
    let ended : length rs ≤ length (end_table 0 rs ++ ends') = simp (length-append, length_ends) (omega arith) in
    grind (arith, nat_tests, ends_rise limit 0 rs, book_in_filled n rs marks' ends' h, take_at (end_table 0 rs) ends' (length rs) (length_ends 0 rs))
