-- What is written of a book is a text that the format allows for it, and so reads back as that book.
use Rattle.std.proofs.Common.{◌≡◌, ℕ, ◌<◌, ◌≤◌, true, false, List, [], ◌∷◌, ◌++◌, map, length, codes, decimal, sym, refl, ap, inl, arith}
use Rattle.std.specs.Int.{IsInRange as Within}
use Rattle.std.specs.List.{flat_map, AllByRecursion}
use Rattle.std.proofs.lemmas.Fmt.{decimal_nonempty}
use Rattle.std.proofs.lemmas.List.{append-nil, append_assoc}
use Rattle.std.proofs.lemmas.Bool.Decides.{nat_tests}
use Rattle.parts.specs.declared.side.Side.{Side}
use Rattle.parts.specs.declared.side.Side.TheVariants.{In, Out}
use Rattle.parts.specs.declared.limits.TheConstants.{MOST_TEXT_RULES}
use Rattle.book.specs.Meaning.{Rule, RuleBook, Sound, sound_rule, sound_rules}
use Rattle.grammar.specs.Law.{WritingReadsBack}
use Rattle.grammar.specs.Writing.{mark_text, mark_field, rule_line, text_of, is_too_large, written_of}
use Rattle.text.specs.Layout.{Blank, Inline, Field, Fields, Lines}
use Rattle.text.proofs.Each.{each_append, each_weaker}
use Rattle.grammar.specs.Format.{Rest, Format}
use Rattle.grammar.specs.Format.Rest.{ends, reads}
use Rattle.grammar.specs.Format.Layout.{begins}
use Rattle.text.proofs.FieldLaws.{fields_after}
use Rattle.text.proofs.NumberLaws.{decimal_digits}
use Rattle.grammar.proofs.Marks.{sound_parts}
use Rattle.grammar.proofs.RuleLines.{rule_words}
use Rattle.grammar.proofs.Accepted.{head_words, reading_is_the_format}

-- a line has its blanks and its fields alone
pub fields_inline : (ws : List (List ℕ)) (line : List ℕ) → Fields ws line → AllByRecursion Inline line
fields_inline [] line h = each_weaker Blank Inline (λ b k e. omega arith) line h
fields_inline (w ∷ ws) line h = grind (arith, each_append Inline h.0 (w ++ h.1), each_weaker Blank Inline (λ b k e. omega arith) h.0 h.3, each_append Inline w h.1, each_weaker _ Inline (λ b k. k.1) w h.4.1, fields_inline ws h.1 h.6)

-- a field and a space before the others, and the last field
spaced : (w : List ℕ) (ws : List (List ℕ)) (rest : List ℕ) → Field w → Fields ws rest → Fields (w ∷ ws) (w ++ 32 ∷ rest)
spaced w ws rest f h = ([], 32 ∷ rest, refl, tt, f, inl refl, fields_after 32 ws rest (inl refl) h)

alone : (w : List ℕ) → Field w → Fields (w ∷ []) w
alone w f = ([], [], sym (append-nil w), tt, f, tt, tt)

-- a field of bytes above the space
visible : (w : List ℕ) → 0 < length w → AllByRecursion (λ b. 32 < b) w → Field w
visible w some h = (λ e. omega (arith, ap length e), each_weaker (λ b. 32 < b) _ (λ b k. (λ e. omega arith, λ e. omega arith)) w h)

decimal_visible : (v : ℕ) → v < 100000 → AllByRecursion (λ b. 32 < b) (decimal v)
decimal_visible v h = each_weaker (Within 48 57) (λ b. 32 < b) (λ b d. omega arith) (decimal v) (decimal_digits v h)

decimal_field : (v : ℕ) → v < 100000 → Field (decimal v)
decimal_field v h = visible (decimal v) (decimal_nonempty v (omega arith)) (decimal_visible v h)

text_is_field : (s : Side) (p : ℕ) → p < 100000 → Field (mark_text s p)
text_is_field In p h = decimal_field p h
text_is_field Out p h = visible (codes "-" ++ decimal p) (omega arith) (omega arith, decimal_visible p h)

-- the line of a rule without its line feed, and the head without it
abbrev rule_body : Rule → List ℕ
rule_body r = flat_map (λ m. mark_field m ++ 32 ∷ []) r ++ 48 ∷ []

abbrev head_body : ℕ → ℕ → List ℕ
head_body n m = codes "p" ++ 32 ∷ (codes "cnf" ++ 32 ∷ (decimal n ++ 32 ∷ decimal m))

rule_fields : (n : ℕ) (r : Rule) → n < 100000 → sound_rule n r ≡ true → Fields (rule_words r) (rule_body r)
rule_fields n [] few h = alone (codes "0") (visible (codes "0") (omega arith) (omega arith))
rule_fields n (m ∷ r) few h =
    let line : rule_body (m ∷ r) ≡ mark_field m ++ 32 ∷ rule_body r = simp append_assoc in
    grind (arith, line, sound_parts n m r h, text_is_field m.side m.part, spaced (mark_field m) (rule_words r) (rule_body r), rule_fields n r)

head_fields : (n m : ℕ) → n < 100000 → m < 100000 → Fields (head_words n m) (head_body n m)
head_fields n m h k =
    spaced (codes "p") (codes "cnf" ∷ decimal n ∷ decimal m ∷ []) _ (visible (codes "p") (omega arith) (omega arith))
    (spaced (codes "cnf") (decimal n ∷ decimal m ∷ []) _ (visible (codes "cnf") (omega arith) (omega arith))
    (spaced (decimal n) (decimal m ∷ []) (decimal m) (decimal_field n h) (alone (decimal m) (decimal_field m k))))

-- the lines of the rules
rules_lines : (n : ℕ) (rs : List Rule) → n < 100000 → sound_rules n rs ≡ true → Lines (map rule_body rs) (flat_map rule_line rs) × Rest rs (map rule_body rs)
rules_lines n [] few h = (refl, ends)
rules_lines n (r ∷ rs) few h =
    let (ls, rest) = rules_lines n rs few (grind arith) in
    let body = rule_fields n r few (grind arith) in
    ((fields_inline (rule_words r) (rule_body r) body, inl (flat_map rule_line rs, simp append_assoc, ls)), reads body rest)

-- What is written of a book is a text that the format allows for it.
pub text_format : (buffer : ℕ) (b : RuleBook) → Sound b → is_too_large buffer b ≡ false → Format b (text_of b)
text_format buffer b sound h =
    let few : b.n < 100000 = omega (arith, sound.few) in
    let m = length b.rules in
    let rules_few : m ≤ MOST_TEXT_RULES = grind (arith, nat_tests) in
    let body = head_body b.n m in
    let head = head_fields b.n m few (omega arith) in
    let (ls, rest) = rules_lines b.n b.rules few sound.rules_sound in
    record {
      each = body ∷ map rule_body b.rules;
      of_lines = (fields_inline (head_words b.n m) body head, inl (flat_map rule_line b.rules, append_assoc body (10 ∷ []) (flat_map rule_line b.rules), ls));
      layout = begins head rest;
      short = grind (arith, nat_tests);
      some = sound.some;
      few = sound.few;
      rules_few = grind (arith, nat_tests);
      marks_few = grind (arith, nat_tests);
      rules_sound = sound.rules_sound;
    }

-- What is written of a book reads back as that book, wherever the tables take it.
pub writing_reads_back : WritingReadsBack
unfolding written_of
writing_reads_back buffer b text sound e marks limits takes =
    grind (arith, text_format buffer b sound, (reading_is_the_format marks limits text).each b)
