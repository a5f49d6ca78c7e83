-- Which lines say a part or a hold, and which.
use Rattle.std.proofs.Common.{◌≡◌, ℕ, zero, suc, ◌<◌, eqb, List, [], ◌∷◌, ◌++◌, length, Some, arith, ◌+◌, ◌≤◌, true, ◌⊎◌, None, codes, decimal, Option, rules, append_assoc, length-append}
use Rattle.std.specs.List.{AllByRecursion, position_or_len, list_all}
use Rattle.std.specs.Prelude.{slice_index}
use Rattle.std.proofs.lemmas.Grind.{common_steps}
use Rattle.std.proofs.lemmas.Bool.Decides.{nat_tests}
use Rattle.std.proofs.lemmas.List.Sums.{split_at_first, passes_at_first}
use Rattle.std.proofs.Math.Seq.{take-append_seam, drop-append-add}
use Rattle.sheet.specs.Reading.{cut, Line, is_name, is_name_byte, side_of_word, part_by, hold_by, line_by, line_of}
use Rattle.std.proofs.lemmas.Slice.Eq.{bytes_eq-Decides}
use Rattle.parts.specs.declared.mark.Mark.{Mark}
use Rattle.parts.specs.declared.side.Side.{Side}
use Rattle.text.specs.Numbers.{number}
use Rattle.text.specs.Layout.{Inline}
use Rattle.text.proofs.NumberLaws.{number_decimal, decimal_number, decimal_digits}
use Rattle.sheet.specs.Reading.Line.{part, hold}
use Rattle.parts.specs.Codes.{side_text}
use Rattle.sheet.specs.Format.{part_line, hold_line}

-- A line is cut at its first tab.
-- bytes with no tab and no line feed among them
abbrev pub Plain : List ℕ → Type 0
Plain bs = AllByRecursion (λ b. 10 < b) bs

-- where the first tab stands
first_tab : (a b : List ℕ) → Plain a → position_or_len (λ b. eqb b 9) (a ++ 9 ∷ b) ≡ length a
first_tab [] b h = grind arith
first_tab (x ∷ a) b h = grind (arith, nat_tests, first_tab a b h.1)

-- a line is cut there
pub cut_at : (a b : List ℕ) → Plain a → cut (a ++ 9 ∷ b) ≡ Some (a, b)
cut_at a b h = grind (arith, common_steps, nat_tests, first_tab a b h, take-append_seam a (9 ∷ b), drop-append-add a (9 ∷ b) 1)

-- and is the two parts with the tab between
pub cut_is : (bs : List ℕ) (p : List ℕ × List ℕ) → cut bs ≡ Some p → bs ≡ p.0 ++ 9 ∷ p.1
cut_is bs p h = grind (arith, common_steps, nat_tests, split_at_first (λ b. eqb b 9) bs 0, passes_at_first (λ b. eqb b 9) bs 0)

-- three fields and the tabs that part them
abbrev pub tabbed : List ℕ → List ℕ → List ℕ → List ℕ
tabbed a b c = a ++ (9 ∷ b ++ (9 ∷ c))

-- a line of the sheet, without its line feed
abbrev pub part_words : ℕ → List ℕ → List ℕ
part_words k name = tabbed (codes "part") (decimal k) name

abbrev pub hold_words : Mark → List ℕ
hold_words m = tabbed (codes "hold") (decimal m.part) (side_text m.side)

-- the bytes from `at` on are the line that says this
abbrev pub Says : ℕ → List ℕ → Line → Type 0
Says at bytes (part k name) = (bytes ≡ part_words k name.bytes) × (name.at ≡ at + (length (decimal k) + 6)) × (is_name name.bytes ≡ true) × (k < 100000)
Says at bytes (hold m) = (bytes ≡ hold_words m) × (m.part < 100000)

-- numbers, names and sides have no tab and no line feed
digits_plain : (bs : List ℕ) → AllByRecursion (λ b. (48 ≤ b) × (b ≤ 57)) bs → Plain bs
digits_plain [] h = tt
digits_plain (b ∷ bs) h = (omega (arith, h.0), digits_plain bs h.1)

name_plain : (bs : List ℕ) → list_all is_name_byte bs ≡ true → Plain bs
name_plain [] h = tt
name_plain (b ∷ bs) h = (grind (arith, nat_tests), name_plain bs (grind arith))

bytes_ascii : (bs : List ℕ) → list_all is_name_byte bs ≡ true → (i : ℕ) → slice_index bs i < 128
bytes_ascii [] h i = omega arith
bytes_ascii (b ∷ bs) h zero = grind (arith, nat_tests)
bytes_ascii (b ∷ bs) h (suc i) = bytes_ascii bs (grind arith) i

-- a name is ASCII
pub name_ascii : (bs : List ℕ) → is_name bs ≡ true → (i : ℕ) → slice_index bs i < 128
name_ascii bs h = bytes_ascii bs (grind arith)

side_plain : (s : Side) → Plain (side_text s)
side_plain s = grind arith

-- a line is read by its three fields
line_three : (at : ℕ) (a b c : List ℕ) → Plain a → Plain b → line_of at (tabbed a b c) ≡ line_by at (length (tabbed a b c)) a (Some (b, c))
line_three at a b c ha hb = rw (cut_at a (b ++ 9 ∷ c) ha, line_of, cut_at b c hb)

-- a side is said by its word alone
side_word : (w : List ℕ) (s : Side) → side_of_word w ≡ Some s → w ≡ side_text s
side_word w s h = grind (arith, bytes_eq-Decides w (codes "in"), bytes_eq-Decides w (codes "out"))

-- such a line says it
pub says_line : (at : ℕ) (bytes : List ℕ) (l : Line) → Says at bytes l → line_of at bytes ≡ Some l
says_line at bytes (part k name) h =
    let three = line_three at (codes "part") (decimal k) name.bytes (search rules) (digits_plain (decimal k) (decimal_digits k h.3)) in
    grind (arith, common_steps, nat_tests, number_decimal k h.3)
says_line at bytes (hold m) h =
    let three = line_three at (codes "hold") (decimal m.part) (side_text m.side) (search rules) (digits_plain (decimal m.part) (decimal_digits m.part h.1)) in
    grind (arith, common_steps, nat_tests, number_decimal m.part h.1)

-- a line that says something is cut twice, and its first field is one of two words
by_cut : (at : ℕ) (bytes : List ℕ) (o : Option (List ℕ × List ℕ)) (l : Line) → elim o [ None ↦ None | Some p ↦ line_by at (length bytes) p.0 (cut p.1) ] ≡ Some l
    → (p : List ℕ × List ℕ) × (o ≡ Some p) × (line_by at (length bytes) p.0 (cut p.1) ≡ Some l)
by_cut at bytes o l h = grind arith

by_word : (at len : ℕ) (word : List ℕ) (o : Option (List ℕ × List ℕ)) (l : Line) → line_by at len word o ≡ Some l
    → (q : List ℕ × List ℕ) × (o ≡ Some q) × (((word ≡ codes "part") × (part_by at len (number q.0) q.1 ≡ Some l)) ⊎ ((word ≡ codes "hold") × (hold_by (number q.0) (side_of_word q.1) ≡ Some l)))
by_word at len word o l h = grind (arith, bytes_eq-Decides word (codes "part"), bytes_eq-Decides word (codes "hold"))

-- and no other does
pub line_says : (at : ℕ) (bytes : List ℕ) (l : Line) → line_of at bytes ≡ Some l → Says at bytes l
line_says at bytes l h =
    let (p, cut_p, line) = by_cut at bytes (cut bytes) l h in
    let (q, cut_q, said) = by_word at (length bytes) p.0 (cut p.1) l line in
    let e = cut_is bytes p cut_p in
    let f = cut_is p.1 q cut_q in
    let long = length-append p.0 (9 ∷ p.1) in
    let longer = length-append q.0 (9 ∷ q.1) in
    grind (arith, said, decimal_number q.0, side_word q.1)

-- none has a line feed
tabbed_inline : (a b c : List ℕ) → Plain a → Plain b → Plain c → AllByRecursion Inline (tabbed a b c)
tabbed_inline [] [] [] i j k = grind arith
tabbed_inline [] [] (x ∷ c) i j k = grind (arith, tabbed_inline [] [] c)
tabbed_inline [] (x ∷ b) c i j k = grind (arith, tabbed_inline [] b c)
tabbed_inline (x ∷ a) b c i j k = grind (arith, tabbed_inline a b c)

pub says_inline : (at : ℕ) (bytes : List ℕ) (l : Line) → Says at bytes l → AllByRecursion Inline bytes
says_inline at bytes (part k name) h = grind (arith, tabbed_inline (codes "part") (decimal k) name.bytes (search rules) (digits_plain (decimal k) (decimal_digits k h.3)), name_plain name.bytes)
says_inline at bytes (hold m) h = grind (arith, tabbed_inline (codes "hold") (decimal m.part) (side_text m.side) (search rules) (digits_plain (decimal m.part) (decimal_digits m.part h.1)), side_plain m.side)

-- a line and its line feed
pub part_ends : (k : ℕ) (name rest : List ℕ) → part_line k name ++ rest ≡ part_words k name ++ 10 ∷ rest
part_ends k name rest = simp append_assoc

pub hold_ends : (m : Mark) (rest : List ℕ) → hold_line m ++ rest ≡ hold_words m ++ 10 ∷ rest
hold_ends m rest = simp append_assoc

pub part_length : (k : ℕ) (name : List ℕ) → length (part_line k name) ≡ length (part_words k name) + 1
part_length k name = simp length-append (omega arith)

pub hold_length : (m : Mark) → length (hold_line m) ≡ length (hold_words m) + 1
hold_length m = simp length-append (omega arith)
