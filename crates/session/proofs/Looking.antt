-- What the next step does, by what the scans and the holds say.
use Rattle.std.proofs.Common.{◌≡◌, ℕ, zero, suc, ◌+◌, true, List, [], ◌∷◌, ◌++◌, map, length, get_or, Some, None, Option, option_map, refl, arith}
use Rattle.std.specs.List.{find, range_with_len}
use Rattle.std.specs.Option.{option_and_then, option_or}
use Rattle.std.proofs.lemmas.List.{length-map}
use Rattle.std.proofs.lemmas.Bool.Decides.{nat_tests}
use Rattle.parts.specs.declared.mark.Mark.{Mark}
use Rattle.parts.specs.Distinct.{is_distinct}
use Rattle.parts.specs.Lists.{at_place}
use Rattle.parts.specs.Rows.{Row, row_marks, is_full}
use Rattle.parts.proofs.DistinctLaws.{distinct_member}
use Rattle.book.specs.Meaning as books
use Rattle.book.specs.Meaning.{Rule, RuleBook}
use Rattle.shelf.specs.Meaning as shelves
use Rattle.shelf.specs.Meaning.{Shelved}
use Rattle.rules.specs.Proved.{book_list_sound, shelf_list_sound}
use Rattle.rules.specs.Listing.{sound_if_there, book_list, shelf_list}
use Rattle.search.specs.declared.reason.Reason.{Reason}
use Rattle.search.specs.declared.reason.Reason.TheVariants.{Book, Shelf}
use Rattle.search.specs.Trail.{Trail, State, row, pressing, truth, says_open, reason_of_crossed}
use Rattle.search.specs.Machine.{Bench, Machine, Press, choose, is_broken, is_pressing, look, press_by, reasons, rule_at, state_of}
use Rattle.search.proofs.States.{truth_shows, state_says}
use Rattle.scan.specs.Scanning.{first_in, broken_in}
use Rattle.scan.specs.declared.Scanned.{Scanned}
use Rattle.scan.specs.declared.Scanned.TheVariants.{Broken, Pressing, Quiet}
use Rattle.trail.specs.Settling.{can_settle}

-- an open hold can be settled
pub hold_free : (n : ℕ) (t : Trail) (hs : List Mark) (m : Mark) → is_distinct n hs ≡ true → Some m ≡ find (λ h. says_open (truth (row n t) h)) hs
    → can_settle (record { n = n; entries = t }) m ≡ true
hold_free n t [] m s e = grind arith
hold_free n t (h ∷ hs) m s e = grind (arith, nat_tests, truth_shows n t h, hold_free n t hs m)

-- and so can the mark of a pressing rule
rule_free : (n : ℕ) (t : Trail) (o : Option Rule) (x : Mark) → sound_if_there n o ≡ true → state_of (row n t) o ≡ pressing x → can_settle (record { n = n; entries = t }) x ≡ true
rule_free n t None x s e = grind arith
rule_free n t (Some r) x s e =
    let says = state_says n t r (λ y i. distinct_member n r y s i) in
    grind (arith, nat_tests, says, distinct_member n r x s)

scan_free : (n : ℕ) (t : Trail) (i : ℕ) (os : List (Option Rule)) (j : ℕ) (x : Mark) → ((k : ℕ) → sound_if_there n (get_or os k None) ≡ true) → Pressing j x ≡ first_in (row n t) i os
    → can_settle (record { n = n; entries = t }) x ≡ true
scan_free n t i [] j x s e = grind arith
scan_free n t i (o ∷ os) j x s e = grind (arith, s 0, rule_free n t o x, scan_free n t (i + 1) os j x (λ k. s (suc k)))

pub book_free : (b : RuleBook) (n : ℕ) (t : Trail) (j : ℕ) (x : Mark) → books.Sound b → n ≡ b.n → Pressing j x ≡ first_in (row n t) 1 (book_list b).rules
    → can_settle (record { n = n; entries = t }) x ≡ true
book_free b n t j x s q e = scan_free n t 1 (book_list b).rules j x (rw q (book_list_sound b s).sound) e

pub shelf_free : (s : Shelved) (n : ℕ) (t : Trail) (j : ℕ) (x : Mark) → shelves.Sound s → n ≡ s.n → Pressing j x ≡ first_in (row n t) 1 (shelf_list s).rules
    → can_settle (record { n = n; entries = t }) x ≡ true
shelf_free s n t j x k q e = scan_free n t 1 (shelf_list s).rules j x (rw q (shelf_list_sound s k).sound) e

-- what a scan found, as the search looks for it
abbrev pub pressed_by : (ℕ → Reason) → Scanned → Option Press
pressed_by by (Broken i) = None
pressed_by by (Pressing i m) = Some (record { mark = m; by = by i })
pressed_by by Quiet = None

-- the first press along reasons, and along two lists of them
first_press : (Reason → State) → List Reason → Option Press
first_press at [] = None
first_press at (q ∷ qs) = option_or (press_by q (at q)) (first_press at qs)

press_first : (at : Reason → State) (qs : List Reason) → option_and_then (λ q. press_by q (at q)) (find (λ q. is_pressing (at q)) qs) ≡ first_press at qs
unfolding first_press
press_first at [] = refl
press_first at (q ∷ qs) = grind (arith, press_first at qs)

press_both : (at : Reason → State) (ps qs : List Reason) → first_press at (ps ++ qs) ≡ option_or (first_press at ps) (first_press at qs)
unfolding first_press
press_both at [] qs = refl
press_both at (p ∷ ps) qs = grind (arith, press_both at ps qs)

find_both : {A : Type 0} (p : A → _) (xs ys : List A) → find p (xs ++ ys) ≡ option_or (find p xs) (find p ys)
find_both p [] ys = refl
find_both p (x ∷ xs) ys = grind (arith, find_both p xs ys)

module _ (by : ℕ → Reason) (at : Reason → State) (r : Row) where
  broken_agrees : (i : ℕ) (os : List (Option Rule)) → ((j : ℕ) → at (by (i + j)) ≡ state_of r (get_or os j None))
      → find (λ q. is_broken (at q)) (map by (range_with_len i (length os))) ≡ option_map by (broken_in (first_in r i os))
  broken_agrees i [] h = refl
  broken_agrees i (o ∷ os) h = grind (arith, h 0, broken_agrees (i + 1) os (λ j. grind (arith, h (suc j))))

  -- where no rule is broken, the first pressing one is the scan's
  pressing_agrees : (i : ℕ) (os : List (Option Rule)) → ((j : ℕ) → at (by (i + j)) ≡ state_of r (get_or os j None)) → broken_in (first_in r i os) ≡ None
      → first_press at (map by (range_with_len i (length os))) ≡ pressed_by by (first_in r i os)
  unfolding first_press
  pressing_agrees i [] h n = refl
  pressing_agrees i (o ∷ os) h n = grind (arith, h 0, pressing_agrees (i + 1) os (λ j. grind (arith, h (suc j))))

-- a press counts only where nothing is broken
same_choice : (a a' : Option Reason) (p p' : Option Press) (c : Option Reason) (h : Option Mark) (v : _) → a ≡ a' → (a' ≡ None → p ≡ p') → choose a p c h v ≡ choose a' p' c h v
same_choice a None p p' c h v e f = rw (e, f refl) refl
same_choice a (Some q) p p' c h v e f = rw e refl

-- what stands at a place, read from a list
listed : {A : Type 0} (f : A → Option Rule) (xs : List A) (j : ℕ) → option_and_then f (at_place xs (1 + j)) ≡ get_or (map f xs) j None
listed f [] j = grind arith
listed f (x ∷ xs) zero = grind arith
listed f (x ∷ xs) (suc j) = grind (arith, listed f xs j)

-- the look of the search, by the two scans
module _ (b : Bench) (m : Machine) (n : ℕ) (same : n ≡ b.book.n) where
  abbrev r : Row
  r = row n m.trail

  abbrev in_book : List (Option Rule)
  in_book = (book_list b.book).rules

  abbrev on_shelf : List (Option Rule)
  on_shelf = (shelf_list m.shelf).rules

  abbrev at : Reason → State
  at q = state_of r (rule_at b.book.rules m.shelf.rows q)

  at_book : (j : ℕ) → at (Book (1 + j)) ≡ state_of r (get_or in_book j None)
  unfolding rule_at
  at_book j = grind (arith, listed Some b.book.rules j)

  at_shelf : (j : ℕ) → at (Shelf (1 + j)) ≡ state_of r (get_or on_shelf j None)
  unfolding rule_at
  at_shelf j = grind (arith, listed (option_map row_marks) m.shelf.rows j)

  abbrev book_found : Scanned
  book_found = first_in r 1 in_book

  abbrev shelf_found : Scanned
  shelf_found = first_in r 1 on_shelf

  abbrev all : List Reason
  all = reasons b.book.rules m.shelf.rows

  broken_of : find (λ q. is_broken (at q)) all ≡ option_or (option_map Book (broken_in book_found)) (option_map Shelf (broken_in shelf_found))
  unfolding reasons
  broken_of =
      let both = find_both (λ q. is_broken (at q)) (map Book (range_with_len 1 (length b.book.rules))) (map Shelf (range_with_len 1 (length m.shelf.rows))) in
      let on_book = broken_agrees Book at r 1 in_book at_book in
      let on_lessons = broken_agrees Shelf at r 1 on_shelf at_shelf in
      rw (both, ← length-map b.book.rules Some, on_book, ← length-map m.shelf.rows (option_map row_marks), on_lessons) refl

  press_of : broken_in book_found ≡ None → broken_in shelf_found ≡ None
      → option_and_then (λ q. press_by q (at q)) (find (λ q. is_pressing (at q)) all) ≡ option_or (pressed_by Book book_found) (pressed_by Shelf shelf_found)
  unfolding reasons
  press_of nb ns =
      let both = press_both at (map Book (range_with_len 1 (length b.book.rules))) (map Shelf (range_with_len 1 (length m.shelf.rows))) in
      let on_book = pressing_agrees Book at r 1 in_book at_book nb in
      let on_lessons = pressing_agrees Shelf at r 1 on_shelf at_shelf ns in
      rw (press_first at, both, ← length-map b.book.rules Some, on_book, ← length-map m.shelf.rows (option_map row_marks), on_lessons) refl

  pub looks : look b m ≡ choose (option_or (option_map Book (broken_in book_found)) (option_map Shelf (broken_in shelf_found))) (option_or (pressed_by Book book_found) (pressed_by Shelf shelf_found))
      (reason_of_crossed r m.trail m.holds) (find (λ h. says_open (truth r h)) m.holds) (is_full r)
  unfolding look
  looks = rw (← same) (same_choice _ _ _ _ _ _ _ broken_of (λ none. press_of (grind arith) (grind arith)))

  -- where no rule is broken or pressing
  pub looks_quiet : Quiet ≡ book_found → Quiet ≡ shelf_found → look b m ≡ choose None None (reason_of_crossed r m.trail m.holds) (find (λ h. says_open (truth r h)) m.holds) (is_full r)
  looks_quiet e f = rw (← e, ← f) at looks
