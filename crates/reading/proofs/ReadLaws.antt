-- What a reading returns and leaves, by what the text reads as.
use Rattle.parts.specs.declared.limits.TheConstants.{MOST_TEXT_BYTES}
use Rattle.std.proofs.Common.{◌≡◌, ℕ, ◌<◌, ◌≤◌, List, length, ℤ, Ok, Err, Result, sym, refl, ap, ◌∙◌, arith}
use Rattle.std.proofs.lemmas.Bool.Decides.{nat_tests}
use Rattle.parts.specs.declared.fault.Fault.{Fault}
use Rattle.parts.specs.declared.refusal.Refusal.TheVariants.{TextTooLong}
use Rattle.book.specs.Meaning.{Rule, RuleBook}
use Rattle.book.specs.Tables.{mark_table, end_table}
use Rattle.book.proofs.TableLaws.{has_book_filled, book_in_filled}
use Rattle.grammar.specs.declared.Room.{Room}
use Rattle.grammar.specs.declared.Size.{Size}
use Rattle.text.specs.Pieces.{lines}
use Rattle.grammar.specs.Reading.{fault_at, rules_of, from_head, read_of}
use Rattle.grammar.proofs.Accepted.{reading_is_the_format}
use Rattle.text.proofs.LineLaws.{left_inline}
use Rattle.grammar.proofs.RuleLines.{rules_to}
use Rattle.reading.specs.Checks.{done_or_fault}
use Rattle.reading.specs.Counted.{all_lines, lines_left}
use Rattle.reading.specs.declared.counted.CountedLines.{CountedLines}
use Rattle.reading.proofs.Counting.{rules_counting}
use Rattle.reading.specs.Fills.{with_front}
use Rattle.reading.specs.Reads.{size_or_fault, HasReadBook}

-- what the first pass says of the rules
pub rules_read : (x : Result (List Rule) Fault) → Ok tt ≡ done_or_fault x → (rs : List Rule) × (x ≡ Ok rs)
rules_read (Ok rs) e = (rs, refl)
rules_read (Err d) e = cc

pub rules_refused : (x : Result (List Rule) Fault) (d : Fault) → Err d ≡ done_or_fault x → x ≡ Err d
rules_refused x d e = grind arith

module _ (marks₀ : List ℤ) (ends₀ : List ℕ) (text : List ℕ) where
  abbrev pub reads : Result RuleBook Fault
  reads = read_of (length marks₀) (length ends₀) text

  pub too_long : MOST_TEXT_BYTES < length text → reads ≡ Err (fault_at TextTooLong MOST_TEXT_BYTES 0)
  unfolding read_of
  too_long h = grind (arith, nat_tests)

  pub by_lines : length text ≤ MOST_TEXT_BYTES → reads ≡ from_head (length marks₀) (length ends₀) (length text) (lines 0 text)
  unfolding read_of
  by_lines h = grind (arith, nat_tests)

  -- the book that was read is the one that the tables have
  pub book_read : (size : Size) (rs : List Rule) (marks : List ℤ) (ends : List ℕ) → reads ≡ Ok (record { n = size.n; rules = rs }) → length rs ≡ size.m → marks ≡ with_front (mark_table rs) marks₀ → ends ≡ with_front (end_table 0 rs) ends₀ → HasReadBook reads marks ends size
  book_read size rs marks ends e m ms es =
      let f = ((reading_is_the_format (length marks₀) (length ends₀) text).only _ e).0 in
      rw (← m, ms, es) (
        has_book_filled size.n rs _ _ f.some f.few f.rules_few f.marks_few f.rules_sound,
        e ∙ ap Ok (sym (book_in_filled size.n rs _ _ f.rules_sound)),
      )

-- as many rules are read as the head says
pub all_read : (room : Room) (end m : ℕ) (rs : List Rule) (lines : CountedLines) → rules_of room end m 0 0 (lines_left lines) ≡ Ok rs → length rs ≡ m
all_read room end m rs lines e =
    omega (arith, (rules_to room end m (all_lines lines) rs 0 0 (left_inline lines.lines) (omega arith) (omega arith) (omega arith) (sym (rules_counting room end m (all_lines lines) 0 0) ∙ e)).1.all)

-- a fault that is returned is the text's
pub fault_read : (x : Result RuleBook Fault) (f : Fault) → Err f ≡ size_or_fault x → x ≡ Err f
fault_read x f e = grind arith
