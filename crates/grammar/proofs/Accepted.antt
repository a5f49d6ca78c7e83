-- A text is accepted as a book exactly if the format allows it for that book and the tables take it.
use Rattle.std.proofs.Common.{◌≡◌, ℕ, ◌≤◌, List, [], ◌∷◌, Some, Ok, codes, decimal, Option, arith, ◌⊎◌, length, Err, Result, refl, inl, inr}
use Rattle.std.proofs.lemmas.Slice.Eq.{bytes_eq-Decides}
use Rattle.std.proofs.lemmas.Bool.Decides.{nat_tests}
use Rattle.grammar.specs.declared.Size.{Size}
use Rattle.text.specs.Numbers.{number}
use Rattle.text.specs.Pieces.{Piece, lines}
use Rattle.grammar.specs.Reading.{counted, size_of, head_of, rules_of, book_of, from_head, read_of}
use Rattle.text.proofs.LineLaws.{bytes_of, lines_are, lines_of, lines_inline}
use Rattle.text.proofs.NumberLaws.{number_decimal, decimal_number}
use Rattle.std.specs.List.{AllByRecursion}
use Rattle.parts.specs.declared.fault.Fault.{Fault}
use Rattle.parts.specs.declared.limits.TheConstants.{MOST_PARTS, MOST_TEXT_RULES}
use Rattle.book.specs.Meaning.{RuleBook}
use Rattle.grammar.specs.declared.Room.{Room}
use Rattle.grammar.specs.Law.{ReadingIsTheFormat}
use Rattle.text.specs.Layout.{Inline}
use Rattle.grammar.specs.Format.{Layout}
use Rattle.grammar.specs.Format.Layout.{skips, begins}
use Rattle.grammar.proofs.Counted.{counted_skipped, counted_are, counted_of}
use Rattle.grammar.proofs.RuleLines.{Given, rules_from, rules_to}

-- A line is a head of a book's size exactly if its fields are p, cnf, and the numbers of parts and of rules.
abbrev pub head_words : ℕ → ℕ → List (List ℕ)
head_words n m = codes "p" ∷ codes "cnf" ∷ decimal n ∷ decimal m ∷ []

-- a head of this size
pub record Heads (size : Size) (fs : List Piece) : Type 0 where
  pub words : bytes_of fs ≡ head_words size.n size.m
  pub some : 1 ≤ size.n
  pub few : size.n ≤ MOST_PARTS
  pub rules_few : size.m ≤ MOST_TEXT_RULES

size_to : (from a b : ℕ) (x y : Option ℕ) (size : Size) → size_of from a b x y ≡ Ok size → (x ≡ Some size.n) × (y ≡ Some size.m) × (1 ≤ size.n) × (size.n ≤ MOST_PARTS) × (size.m ≤ MOST_TEXT_RULES)
size_to from a b x y size e = grind (arith, nat_tests)

-- the fields of a head give its size
pub head_from : (from : ℕ) (size : Size) (fs : List Piece) → Heads size fs → head_of from fs ≡ Ok size
head_from from size (p ∷ cnf ∷ n ∷ m ∷ []) h =
    let p_is = (bytes_eq-Decides p.bytes (codes "p")).1 in
    let cnf_is = (bytes_eq-Decides cnf.bytes (codes "cnf")).1 in
    grind (arith, nat_tests, p_is, cnf_is, number_decimal size.n, number_decimal size.m)
head_from from size fs h = grind arith

-- and a size is read from nothing else
pub head_to : (from : ℕ) (size : Size) (fs : List Piece) → head_of from fs ≡ Ok size → Heads size fs
head_to from size (p ∷ cnf ∷ n ∷ m ∷ []) e =
    let p_is = (bytes_eq-Decides p.bytes (codes "p")).0 in
    let cnf_is = (bytes_eq-Decides cnf.bytes (codes "cnf")).0 in
    let sizes = size_to from n.at m.at (number n.bytes) (number m.bytes) size in
    grind (arith, p_is, cnf_is, sizes, decimal_number n.bytes size.n, decimal_number m.bytes size.m)
head_to from size fs e = cc

abbrev pub room_of : ℕ → ℕ → ℕ → Room
room_of marks ends n = record { n = n; marks = marks; ends = ends }

-- what a book keeps that is read for tables of so many entries
pub record Fits (marks ends : ℕ) (b : RuleBook) : Type 0 where
  pub some : 1 ≤ b.n
  pub few : b.n ≤ MOST_PARTS
  pub rules_few : length b.rules ≤ MOST_TEXT_RULES
  pub given : Given (room_of marks ends b.n) (length b.rules) 0 0 b.rules

module _ (marks ends end : ℕ) where
  -- what the lines after the head read as, by the size that it says
  abbrev pub from_size : List Piece → Result Size Fault → Result RuleBook Fault
  from_size ls (Err e) = Err e
  from_size ls (Ok size) = book_of size.n (rules_of (room_of marks ends size.n) end size.m 0 0 ls)

  abbrev from_line : Piece → List Piece → List Piece → Result RuleBook Fault
  from_line l ls [] = from_head marks ends end ls
  from_line l ls (f ∷ fs) = from_size ls (head_of l.at (f ∷ fs))

  -- lines that the format allows for a book give it
  pub head_lines : (ps : List Piece) (b : RuleBook) → Fits marks ends b → Layout b.n b.rules (bytes_of ps) → from_head marks ends end ps ≡ Ok b
  head_lines [] b f h = elim h [ ]
  head_lines (l ∷ ls) b f (skips s h) = grind (arith, counted_skipped l.at l.bytes s, head_lines ls b f h)
  head_lines (l ∷ ls) b f (begins hd h) =
      let size : Size = record { n = b.n; m = length b.rules } in
      let words = counted_are l.at (codes "p") _ l.bytes (λ e. omega arith) hd in
      let head = head_from l.at size (counted l) (record { words = words; some = f.some; few = f.few; rules_few = f.rules_few }) in
      grind (arith, rules_from (room_of marks ends b.n) end (length b.rules) ls b.rules 0 0 (omega arith) f.given h)

  -- a line of lines that were read was passed over, or was the head of m rules
  abbrev HeadStep : Piece → List Piece → List Piece → RuleBook → Type 0
  HeadStep l ls fs b =
      ((fs ≡ []) × (from_head marks ends end ls ≡ Ok b))
      ⊎ ((m : ℕ) × Heads (record { n = b.n; m = m }) fs × (rules_of (room_of marks ends b.n) end m 0 0 ls ≡ Ok b.rules))

  head_step : (l : Piece) (ls fs : List Piece) (b : RuleBook) → from_line l ls fs ≡ Ok b → HeadStep l ls fs b
  head_step l ls [] b e = inl (refl, e)
  head_step l ls (f ∷ fs) b e = by (head_of l.at (f ∷ fs)) refl e
    where
      by : (x : Result Size Fault) → head_of l.at (f ∷ fs) ≡ x → from_size ls x ≡ Ok b → HeadStep l ls (f ∷ fs) b
      by (Err x) q h = cc
      by (Ok size) q h = inr (size.m, head_to l.at _ (f ∷ fs) (grind arith), grind arith)

  -- and no others do
  pub lines_head : (ps : List Piece) (b : RuleBook) → AllByRecursion (AllByRecursion Inline) (bytes_of ps) → from_head marks ends end ps ≡ Ok b → Fits marks ends b × Layout b.n b.rules (bytes_of ps)
  lines_head [] b inline e = cc
  lines_head (l ∷ ls) b inline e =
      let counts = counted_of l.at l.bytes inline.0 in
      elim (head_step l ls (counted l) b e) [
        | inl k ↦
            let (f, h) = lines_head ls b inline.1 k.1 in
            (f, skips (rw k.0 at counts) h)
        | inr k ↦
            let (m, heads, read) = k in
            let (rest, given) = rules_to (room_of marks ends b.n) end m ls b.rules 0 0 inline.1 (omega arith) (omega arith) (omega arith) read in
            let same : m ≡ length b.rules = omega arith in
            let head = rw (heads.words, same) at counts in
            (record { some = heads.some; few = heads.few; rules_few = omega arith; given = rw same at given }, begins head rest)
      ]

-- A text is accepted as a book exactly if the format allows it for that book and the tables take it.
pub reading_is_the_format : ReadingIsTheFormat
unfolding read_of
reading_is_the_format marks ends text = record {
  only = λ b e.
      let of_lines = lines_of 0 text in
      let on : from_head marks ends (length text) (lines 0 text) ≡ Ok b = grind (arith, nat_tests) in
      let (f, layout) = lines_head marks ends (length text) (lines 0 text) b (lines_inline _ text of_lines) on in (
        record {
          each = bytes_of (lines 0 text);
          of_lines = of_lines;
          layout = layout;
          short = grind (arith, nat_tests);
          some = f.some;
          few = f.few;
          rules_few = f.rules_few;
          marks_few = omega (arith, f.given);
          rules_sound = f.given.sound;
        },
        grind (arith, f.given),
      );
  each = λ b f t. grind (arith, nat_tests, head_lines marks ends (length text) (lines 0 text) b, lines_are 0 f.each text f.of_lines, f);
}
