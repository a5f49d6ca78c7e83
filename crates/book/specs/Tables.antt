-- A book by its two tables: marks as signed numbers, and for each rule where its marks end.
use Rattle.std.specs.Prelude.{ℕ, ◌+◌, ◌-◌, min, Bool, ◌&&◌, List, [], ◌∷◌, map, length, take, drop, flat_map, ℤ, nat_le}
use Rattle.parts.specs.declared.limits.TheConstants.{MOST_PARTS, MOST_TEXT_RULES, MOST_TEXT_MARKS}
use Rattle.parts.specs.declared.mark.Mark.{Mark}
use Rattle.parts.specs.Marks.{mark_from, number_from}
use Rattle.parts.specs.Distinct.{is_part}
use Rattle.book.specs.Meaning.{Rule, RuleBook, sound_rules}

-- the rules whose marks end at these places; the first begins at `from`
abbrev pub cut : ℕ → List ℕ → List Mark → List Rule
cut from [] ms = []
cut from (e ∷ es) ms = take (e - from) (drop from ms) ∷ cut e es ms

-- the book over n parts that the first m ends cut from the marks
abbrev pub book_in : ℕ → ℕ → List ℤ → List ℕ → RuleBook
book_in n m marks ends = record { n = n; rules = cut 0 (take m ends) (map mark_from marks) }

-- no end falls below the one before, and none passes the limit
abbrev pub rising : ℕ → ℕ → List ℕ → Bool
rising limit from [] = nat_le from limit
rising limit from (e ∷ es) = nat_le from e && rising limit e es

-- at most 16,000 marks, and no more than their table takes
abbrev pub marks_limit : ℕ → ℕ
marks_limit marks = min MOST_TEXT_MARKS marks

-- whether there is a book of n parts and m rules in the tables: n from 1 to 120, at most 4,000
-- rules with an end each, ends that do not fall and stay within the table and 16,000 marks, and in
-- each rule parts from 1 to n, none twice (so a mark 0 is refused too)
abbrev pub has_book : ℕ → ℕ → List ℤ → List ℕ → Bool
has_book n m marks ends =
    (is_part MOST_PARTS n && (nat_le m MOST_TEXT_RULES && nat_le m (length ends)))
    && (rising (marks_limit (length marks)) 0 (take m ends)
    && sound_rules n (book_in n m marks ends).rules)

-- the tables that a list of rules fills: its marks one after another, and where each rule's marks
-- end
abbrev pub mark_table : List Rule → List ℤ
mark_table rs = flat_map (map number_from) rs

abbrev pub end_table : ℕ → List Rule → List ℕ
end_table from [] = []
end_table from (r ∷ rs) = (from + length r) ∷ end_table (from + length r) rs
