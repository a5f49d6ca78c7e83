use Rattle.parts.specs.declared.limits.TheConstants.{MOST_TEXT_RULES, MOST_TEXT_BYTES}
use Rattle.std.proofs.Common.{◌≡◌, ℕ, ◌≤◌, List, [], ◌++◌, length, Some, Ok, ap, ◌∙◌, arith}
use Rattle.std.proofs.lemmas.Bool.Decides.{nat_tests}
use Rattle.std.proofs.lemmas.List.{take_at}
use Rattle.book.specs.Meaning.{RuleBook, count_marks}
use Rattle.grammar.specs.Reading.{read_of}
use Rattle.grammar.specs.Writing.{text_of, written_of}
use Rattle.grammar.proofs.Back.{writing_reads_back}
use Rattle.writing.specs.Writes.{few_marks}
use Rattle.writing.proofs.write.Goals as goal

-- the text that stands on the page is the book's, where no refusal applies
copied : (size : ℕ) (b : RuleBook) (page text : List ℕ) → page ≡ [] → text ≡ page ++ text_of b → length text ≤ MOST_TEXT_BYTES → length b.rules ≤ MOST_TEXT_RULES
    → (k : ℕ) → Some k ≡ few_marks (count_marks b.rules) → length text ≤ size → written_of size b ≡ Ok text
unfolding written_of
copied size b page text empty put short rules k marks room = grind (arith, nat_tests)

pub returns-clause-back : goal.returns-clause-back
returns-clause-back g c = λ marks ends room.
    let text = c.as_bytes-text.result.now in
    let b = g.B.Book.meaning c.args.book.now in
    let put = c.as_bytes-text.ensures.value ∙ c.as_str.ensures.value ∙ c.in-Ok.ensures in
    let short : length text ≤ MOST_TEXT_BYTES = omega (arith, ap length c.as_bytes-text.ensures.value, c.as_str.ensures.fits) in
    let e = copied (length c.args.buffer.now) b _ text c.new-page.ensures put short (omega arith) _ c.in-Some.ensures (omega arith) in
    ap (read_of marks ends) (take_at _ _ (length text) (ap length c.copy_from_slice.ensures.after) ∙ c.copy_from_slice.ensures.after)
    ∙ writing_reads_back (length c.args.buffer.now) b text (g.B.Book.sound c.args.book.now) e marks ends room
