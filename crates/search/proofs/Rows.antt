-- Rows of codes as rules: what is named after marks are written in or a part is left out.
use Rattle.std.proofs.Common.{◌≡◌, ℕ, zero, suc, ◌+◌, ◌-◌, ◌≤◌, true, false, ◌≢◌, ◌⊎◌, [], ◌∷◌, length, nat_le, set, replicate, Some, refl, inl, arith}
use Rattle.std.specs.List.{slice_get}
use Rattle.std.specs.Option.{option_and_then}
use Rattle.std.proofs.lemmas.Grind.{common_steps}
use Rattle.std.proofs.lemmas.List.Recursion.{and_set}
use Rattle.std.proofs.lemmas.Bool.Decides.{nat_tests}
use Rattle.std.proofs.lemmas.Option.{gets}
use Rattle.parts.specs.Codes.{code_of, side_of, all_codes}
use Rattle.parts.specs.Marks.{opposite_of}
use Rattle.parts.specs.Rows.{Row, marks_from, row_marks, side_in, names_mark}
use Rattle.parts.specs.declared.mark.Mark.{Mark}
use Rattle.parts.proofs.Among.{Among}
use Rattle.book.specs.Meaning.{Rule}
use Rattle.search.specs.Trail.{enter, leave}
use Rattle.search.proofs.Basics.{item_set, place_within}

-- a row that names a mark
abbrev pub Names : Row → Mark → Type 0
Names c y = side_in c y.part ≡ Some y.side

-- the test and what it says
pub names_true : (c : Row) (y : Mark) → names_mark c y ≡ true → Names c y
unfolding names_mark
names_true c y h = grind arith

pub true_names : (c : Row) (y : Mark) → Names c y → names_mark c y ≡ true
unfolding names_mark
true_names c y h = grind arith

pub not_names : (c : Row) (y : Mark) → (Names c y → ⊥) → names_mark c y ≡ false
unfolding names_mark
not_names c y n = grind arith

-- a named part is one of the row's
pub names_within : (c : Row) (y : Mark) → Names c y → (1 ≤ y.part) × (y.part ≤ length c)
names_within c y h = grind (arith, place_within)

-- a rule over the parts of a row, and a mark written in
abbrev pub Within : Row → Rule → Type 0
Within c r = (y : Mark) → Among y r → (1 ≤ y.part) × (y.part ≤ length c)

abbrev put : Row → Mark → Row
put c m = set c (m.part - 1) (code_of m.side)

within_put : (c : Row) (m : Mark) (r : Rule) → Within c (m ∷ r) → Within (put c m) r
within_put c m r w y i = grind (arith, common_steps)

pub enter_length : (c : Row) (r : Rule) → length (enter c r) ≡ length c
unfolding enter
enter_length c [] = refl
enter_length c (m ∷ r) = grind (arith, common_steps, enter_length (put c m) r)

-- codes stay codes
set_codes : (c : Row) (j v : ℕ) → v ≤ 2 → all_codes c ≡ true → all_codes (set c j v) ≡ true
set_codes c j v l h = and_set all_codes (λ c. nat_le c 2) refl (λ x xs. refl) c j v (grind (arith, nat_tests)) h

pub enter_codes : (c : Row) (r : Rule) → all_codes c ≡ true → all_codes (enter c r) ≡ true
unfolding enter
enter_codes c [] h = h
enter_codes c (m ∷ r) h = grind (arith, set_codes, enter_codes (put c m) r)

pub leave_codes : (p : ℕ) (c : Row) → all_codes c ≡ true → all_codes (leave p c) ≡ true
unfolding leave
leave_codes p c h = grind (arith, set_codes)

pub empty_codes : (n : ℕ) → all_codes (replicate n 0) ≡ true
empty_codes zero = refl
empty_codes (suc n) = empty_codes n

-- what stays, what comes, and nothing else
pub enter_stays : (c : Row) (r : Rule) (y : Mark) → Within c r → Names c y → (Among (opposite_of y) r → ⊥) → Names (enter c r) y
unfolding enter
enter_stays c [] y w h n = h
enter_stays c (m ∷ r) y w h n = grind (arith, w m, item_set, enter_stays (put c m) r y (within_put c m r w))

pub enter_comes : (c : Row) (r : Rule) (y : Mark) → Within c r → Among y r → (Among (opposite_of y) r → ⊥) → Names (enter c r) y
unfolding enter
enter_comes c [] y w i n = grind arith
enter_comes c (m ∷ r) y w i n = grind (arith, w m, item_set, enter_stays (put c m) r y (within_put c m r w), enter_comes (put c m) r y (within_put c m r w))

pub enter_from : (c : Row) (r : Rule) (y : Mark) → Within c r → Names (enter c r) y → Names c y ⊎ Among y r
unfolding enter
enter_from c [] y w h = inl h
enter_from c (m ∷ r) y w h = grind (arith, w m, item_set, enter_from (put c m) r y (within_put c m r w) h)

-- a part left out
pub leave_length : (p : ℕ) (c : Row) → length (leave p c) ≡ length c
unfolding leave
leave_length p c = grind (arith, common_steps)

pub leave_from : (p : ℕ) (c : Row) (y : Mark) → (1 ≤ p) × (p ≤ length c) → Names (leave p c) y → Names c y × (y.part ≢ p)
unfolding leave
leave_from p c y r h = grind (arith, item_set)

pub leave_stays : (p : ℕ) (c : Row) (y : Mark) → (1 ≤ p) × (p ≤ length c) → Names c y → y.part ≢ p → Names (leave p c) y
unfolding leave
leave_stays p c y r h ne = grind (arith, item_set)

-- the empty row
pub empty_row : (n : ℕ) (y : Mark) → Names (replicate n 0) y → ⊥
empty_row n y h = grind (arith, common_steps, gets)

-- the marks of a row are those that it names
marks_there : (i : ℕ) (c : Row) (j : ℕ) (y : Mark) → y.part ≡ i + j → option_and_then side_of (slice_get c j) ≡ Some y.side → Among y (marks_from i c)
marks_there i [] j y e h = grind arith
marks_there i (k ∷ c) zero y e h = grind arith
marks_there i (k ∷ c) (suc j) y e h = grind (arith, marks_there (suc i) c j y)

there_marks : (i : ℕ) (c : Row) (y : Mark) → Among y (marks_from i c) → (i ≤ y.part) × (option_and_then side_of (slice_get c (y.part - i)) ≡ Some y.side)
there_marks i [] y h = grind arith
there_marks i (k ∷ c) y h = grind (arith, there_marks (suc i) c y)

pub among_marks : (c : Row) (y : Mark) → Names c y → Among y (row_marks c)
among_marks c y h = grind (arith, marks_there 1 c)

pub marks_among : (c : Row) (y : Mark) → Among y (row_marks c) → Names c y
marks_among c y h = grind (arith, there_marks 1 c y h)
