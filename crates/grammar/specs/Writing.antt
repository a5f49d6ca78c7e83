-- The text that a book is written as.
use Rattle.std.specs.Prelude.{ℕ, Bool, if◌then◌else◌, ◌||◌, List, [], ◌∷◌, ◌++◌, length, Ok, Err, codes, decimal, Result, nat_lt}
use Rattle.std.specs.List.{flat_map}
use Rattle.parts.specs.declared.limits.TheConstants.{MOST_TEXT_RULES, MOST_TEXT_MARKS, MOST_TEXT_BYTES}
use Rattle.parts.specs.declared.mark.Mark.{Mark}
use Rattle.parts.specs.declared.side.Side.{Side}
use Rattle.parts.specs.declared.side.Side.TheVariants.{In, Out}
use Rattle.parts.specs.declared.refusal.Refusal.{Refusal}
use Rattle.parts.specs.declared.refusal.Refusal.TheVariants.{NotWritable}
use Rattle.book.specs.Meaning.{Rule, RuleBook, count_marks}

-- the field of a mark: its part's decimal digits, with a minus before them for out
abbrev pub mark_text : Side → ℕ → List ℕ
mark_text In p = decimal p
mark_text Out p = codes "-" ++ decimal p

abbrev pub mark_field : Mark → List ℕ
mark_field m = mark_text m.side m.part

-- each mark and a space, then 0 and the line feed
abbrev pub rule_line : Rule → List ℕ
rule_line r = flat_map (λ m. mark_field m ++ 32 ∷ []) r ++ (48 ∷ 10 ∷ [])

abbrev pub head_line : ℕ → ℕ → List ℕ
head_line n m = codes "p cnf " ++ (decimal n ++ (32 ∷ decimal m) ++ 10 ∷ [])

abbrev pub text_of : RuleBook → List ℕ
text_of b = head_line b.n (length b.rules) ++ flat_map rule_line b.rules

-- more than a text may have: 4,000 rules, 16,000 marks, 60,000 bytes, or what the buffer takes
abbrev pub is_too_large : ℕ → RuleBook → Bool
is_too_large buffer b =
    (nat_lt MOST_TEXT_RULES (length b.rules) || nat_lt MOST_TEXT_MARKS (count_marks b.rules))
    || (nat_lt MOST_TEXT_BYTES (length (text_of b)) || nat_lt buffer (length (text_of b)))

-- the text written into a buffer of so many bytes, or the refusal
unfoldable pub written_of : ℕ → RuleBook → Result (List ℕ) Refusal
written_of buffer b = if is_too_large buffer b then (Err NotWritable) else (Ok (text_of b))
