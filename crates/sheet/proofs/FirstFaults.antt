-- The fault of a sheet is the first: no sheet begins with what it names, and one does with what stands before it.
use Rattle.std.proofs.Common.{◌≡◌, ◌≢◌, ℕ, ◌+◌, ◌<◌, ◌≤◌, true, leb, List, [], ◌∷◌, ◌++◌, length, take, drop, flat_map, Ok, Err, None, Some, Option, Result, refl, sym, ap, ◌∙◌, inl, inr, arith, ◌⊎◌, IsErr, append-nil, append_assoc, add-zero, zero-add, length-append, length-drop}
use Rattle.std.specs.List.{AllByRecursion, list_all}
use Rattle.std.proofs.lemmas.List.Folds.{list_all-append}
use Rattle.std.proofs.lemmas.Grind.{common_steps}
use Rattle.std.proofs.lemmas.List.{length-take-le, take-append-drop}
use Rattle.std.proofs.lemmas.Bool.{cases_Bool}
use Rattle.std.proofs.lemmas.Bool.Decides.{nat_tests}
use Rattle.parts.specs.declared.fault.Fault.{Fault}
use Rattle.parts.specs.declared.limits.TheConstants.{MOST_SHEET_BYTES}
use Rattle.parts.specs.declared.mark.Mark.{Mark}
use Rattle.parts.specs.declared.refusal.Refusal.TheVariants.{MalformedSheet, SheetOutOfOrder}
use Rattle.parts.specs.Distinct.{is_distinct}
use Rattle.parts.proofs.DistinctLaws.{is_distinct_push}
use Rattle.text.specs.Pieces.{Piece, lines}
use Rattle.text.specs.Layout.{Inline, Lines}
use Rattle.text.proofs.LineLaws.{bytes_of, lines_feed, lines_last, lines_of}
use Rattle.sheet.specs.Reading.{Said, nothing_said, Line, line_of, line_at, added, said_by, said_on, is_name, sheet_fault, sheet_of}
use Rattle.sheet.specs.Reading.Line.{part, hold}
use Rattle.sheet.specs.Format.{part_line, hold_line, part_lines, sheet_text}
use Rattle.sheet.specs.Law.{FaultIsFirst, BeginsSheet, RefusingIsFirst, may_name}
use Rattle.sheet.specs.Law.Named.{excess, line, last_line, sheet_end}
use Rattle.sheet.proofs.LineOf.{Says, line_says, part_ends, hold_ends, part_words, hold_words}
use Rattle.sheet.proofs.Accepted.{Adds, added_adds}

-- one line more after those of names, or of holds
part_more : (names : List (List ℕ)) (k : ℕ) (name : List ℕ) → part_lines k (names ++ name ∷ []) ≡ part_lines k names ++ part_line (k + length names) name
part_more [] k name = grind (arith, append-nil (part_line k name))
part_more (x ∷ names) k name = grind (arith, part_more names (k + 1) name, append_assoc (part_line k x) (part_lines (k + 1) names) (part_line (k + 1 + length names) name))

hold_more : (holds : List Mark) (m : Mark) → flat_map hold_line (holds ++ m ∷ []) ≡ flat_map hold_line holds ++ hold_line m
hold_more [] m = append-nil (hold_line m)
hold_more (h ∷ holds) m = ap (λ t. hold_line h ++ t) (hold_more holds m) ∙ sym (append_assoc (hold_line h) (flat_map hold_line holds) (hold_line m))

part_text : (names : List (List ℕ)) (k : ℕ) (name l before : List ℕ) → before ≡ part_lines 1 names → 1 + length names ≡ k → l ≡ part_words k name → before ++ (l ++ 10 ∷ []) ≡ part_lines 1 (names ++ name ∷ []) ++ []
part_text names k name l before front at says =
    let more : part_lines 1 (names ++ name ∷ []) ≡ part_lines 1 names ++ part_line k name = part_more names 1 name ∙ ap (λ j. part_lines 1 names ++ part_line j name) at in
    let ended : part_words k name ++ 10 ∷ [] ≡ part_line k name = sym (part_ends k name []) ∙ append-nil (part_line k name) in
    rw (append-nil (part_lines 1 (names ++ name ∷ [])), more, front, says) (ap (λ t. part_lines 1 names ++ t) ended)

hold_text : (ps : List ℕ) (holds : List Mark) (m : Mark) (l before : List ℕ) → before ≡ ps ++ flat_map hold_line holds → l ≡ hold_words m → before ++ (l ++ 10 ∷ []) ≡ ps ++ flat_map hold_line (holds ++ m ∷ [])
hold_text ps holds m l before front says =
    let ended : hold_words m ++ 10 ∷ [] ≡ hold_line m = sym (hold_ends m []) ∙ append-nil (hold_line m) in
    rw (hold_more holds m, front, says) (append_assoc ps (flat_map hold_line holds) (hold_words m ++ 10 ∷ []) ∙ ap (λ t. ps ++ (flat_map hold_line holds ++ t)) ended)

module _ (n : ℕ) where
  -- What was said by the lines before, which begin a sheet: any sheet that begins so goes on from there.
  record Before (before : List ℕ) (s : Said) : Type 0 where
    begins : BeginsSheet n before
    count : length s.names ≡ length begins.names
    held : s.holds ≡ begins.holds
    on : (rest : List ℕ) (end : ℕ) → length before ≤ end → said_on n end nothing_said (lines 0 (before ++ rest)) ≡ said_on n end s (lines (length before) rest)

  before_none : Before [] nothing_said
  before_none = record { begins = record { names = []; holds = []; is_text = refl; few = omega arith; names_are = refl; holds_are = refl }; count = refl; held = refl; on = λ rest end h. refl }

  -- one line more
  begins_more : (before l : List ℕ) (s t : Said) (b : Before before s) (x : Line) → Says (length before) l x → Adds n s x t → (b' : BeginsSheet n (before ++ (l ++ 10 ∷ []))) × (length t.names ≡ length b'.names) × (t.holds ≡ b'.holds)
  begins_more before l s t b (part k name) says adds =
      let names : List (List ℕ) = b.begins.names ++ name.bytes ∷ [] in
      let none : b.begins.holds ≡ [] = sym b.held ∙ adds.2 in
      let front : before ≡ part_lines 1 b.begins.names = b.begins.is_text ∙ rw none (append-nil (part_lines 1 b.begins.names)) in
      let at : 1 + length b.begins.names ≡ k = omega (arith, adds.0, b.count) in
      let all : before ++ (l ++ 10 ∷ []) ≡ part_lines 1 names ++ [] = part_text b.begins.names k name.bytes l before front at says.0 in
      let count : length t.names ≡ length names = omega (arith, ap (λ u. length u.names) adds.3, length-append s.names (name ∷ []), length-append b.begins.names (name.bytes ∷ []), b.count) in (
        record { names = names; holds = []; is_text = all; few = omega (arith, adds.1, length-append b.begins.names (name.bytes ∷ [])); names_are = rw (list_all-append is_name b.begins.names (name.bytes ∷ []), b.begins.names_are, says.2) refl; holds_are = refl },
        count,
        ap (λ u. u.holds) adds.3 ∙ adds.2,
      )
  begins_more before l s t b (hold m) says adds =
      let holds : List Mark = b.begins.holds ++ m ∷ [] in
      let all : before ++ (l ++ 10 ∷ []) ≡ part_lines 1 b.begins.names ++ flat_map hold_line holds = hold_text (part_lines 1 b.begins.names) b.begins.holds m l before b.begins.is_text says.0 in (
        record { names = b.begins.names; holds = holds; is_text = all; few = b.begins.few; names_are = b.begins.names_are; holds_are = is_distinct_push n b.begins.holds m b.begins.holds_are adds.0 adds.1 (rw b.held at adds.2) },
        ap (λ u. length u.names) adds.3 ∙ b.count,
        ap (λ u. u.holds) adds.3 ∙ ap (λ hs. hs ++ m ∷ []) b.held,
      )

  before_more : (before l : List ℕ) (s t : Said) (x : Line) → AllByRecursion Inline l → Before before s → line_of (length before) l ≡ Some x → added n (length before) s x ≡ Ok t → Before (before ++ (l ++ 10 ∷ [])) t
  before_more before l s t x inline b says adds =
      let (begins, count, held) = begins_more before l s t b x (line_says (length before) l x says) (added_adds n (length before) s t x adds) in
      let q : ℕ = length before + length l + 1 in
      let long : length (before ++ (l ++ 10 ∷ [])) ≡ q = omega (arith, length-append before (l ++ 10 ∷ []), length-append l (10 ∷ [])) in
      record {
        begins = begins;
        count = count;
        held = held;
        on = λ rest end h.
            let all : (before ++ (l ++ 10 ∷ [])) ++ rest ≡ before ++ (l ++ 10 ∷ rest) = simp append_assoc in
            rw (all, long, b.on (l ++ 10 ∷ rest) end (omega (arith, long)), lines_feed (length before) l rest inline) (goes end rest (omega (arith, long)));
      }
    where
      goes : (end : ℕ) (rest : List ℕ) → length before + length l < end → said_on n end s (record { at = length before; bytes = l } ∷ lines (length before + length l + 1) rest) ≡ said_on n end t (lines (length before + length l + 1) rest)
      goes end rest h = grind (arith, nat_tests)

  order : (a b : ℕ) → (a ≤ b) ⊎ (b < a)
  order a b = elim (cases_Bool (leb a b)) [ inl e ↦ inl (grind (arith, nat_tests)) | inr e ↦ inr (grind (arith, nat_tests)) ]

  long_err : (t : List ℕ) → MOST_SHEET_BYTES < length t → sheet_of n t ≡ Err (sheet_fault MalformedSheet MOST_SHEET_BYTES)
  unfolding sheet_of
  long_err t h = grind (arith, nat_tests)

  short_is : (t : List ℕ) → length t ≤ MOST_SHEET_BYTES → sheet_of n t ≡ said_on n (length t) nothing_said (lines 0 t)
  unfolding sheet_of
  short_is t h = grind (arith, nat_tests)

  none_said : (t : List ℕ) → IsErr (said_on n (length t) nothing_said (lines 0 t)) → IsErr (sheet_of n t)
  none_said t h = elim (order (length t) MOST_SHEET_BYTES) [ inl short ↦ rw (short_is t short) h | inr long ↦ rw (long_err t long) refl ]

  is_err : (x : Result Said Fault) (f : Fault) → x ≡ Err f → IsErr x
  is_err x f e = rw e refl

  -- the sheet ends, and a part has no name
  end_fault : (before : List ℕ) (s : Said) (f : Fault) → Before before s → said_on n (length before) s [] ≡ Err f → FaultIsFirst n (before ++ []) f
  end_fault before s f b q =
      let is : f ≡ sheet_fault SheetOutOfOrder (length before) = grind (arith, nat_tests) in
      record {
        before = before;
        bytes = [];
        after = [];
        is_text = refl;
        byte = ap (λ g. g.byte) is;
        rule = ap (λ g. g.rule) is;
        named = sheet_end;
        allowed = rw is refl;
        is_named = refl;
        ends_there = refl;
        refused = λ rest k.
            none_said (before ++ rest) (rw (k, b.on [] (length (before ++ [])) (omega (arith, length-append before [])), ap (length {A = ℕ}) (append-nil before)) (is_err _ f q));
        passed = λ _. b.begins;
      }

  said_fault : (at : ℕ) (s : Said) (o : Option Line) (f : Fault) → said_by n at s o ≡ Err f → (f.byte ≡ at) × (f.rule ≡ 0) × (may_name f.refusal line ≡ true)
  said_fault at s o f q = grind arith

  -- a line before the sheet's end is judged by its bytes
  judged : (at end : ℕ) (l : List ℕ) (s : Said) (more : List Piece) (x : Result Said Fault) → at + length l < end → said_by n at s (line_of at l) ≡ x → said_on n end s (record { at = at; bytes = l } ∷ more) ≡ elim x [ Err e ↦ Err e | Ok t ↦ said_on n end t more ]
  judged at end l s more x h q = grind (arith, nat_tests)

  said_line : (at : ℕ) (s t : Said) (o : Option Line) → said_by n at s o ≡ Ok t → (x : Line) × (o ≡ Some x) × (added n at s x ≡ Ok t)
  said_line at s t None q = cc
  said_line at s t (Some x) q = (x, refl, q)

  -- a line that is ended says nothing, or nothing that may stand there
  line_fault : (before l g : List ℕ) (s : Said) (f : Fault) → AllByRecursion Inline l → Before before s → said_by n (length before) s (line_of (length before) l) ≡ Err f → FaultIsFirst n (before ++ (l ++ 10 ∷ g)) f
  line_fault before l g s f inline b q =
      let (byte, rule, may) = said_fault (length before) s (line_of (length before) l) f q in
      let whole : (rest : List ℕ) → before ++ ((l ++ 10 ∷ []) ++ rest) ≡ before ++ (l ++ 10 ∷ rest) = λ rest. simp append_assoc in
      record {
        before = before;
        bytes = l ++ 10 ∷ [];
        after = g;
        is_text = sym (whole g);
        byte = byte;
        rule = rule;
        named = line;
        allowed = may;
        is_named = (l, refl, inline);
        ends_there = tt;
        refused = λ rest _.
            let t : List ℕ = before ++ (l ++ 10 ∷ rest) in
            let long : length t ≡ length before + length l + 1 + length rest = omega (arith, length-append before (l ++ 10 ∷ rest), length-append l (10 ∷ rest)) in
            rw (whole rest)
            (none_said t (rw (b.on (l ++ 10 ∷ rest) (length t) (omega (arith, long)), lines_feed (length before) l rest inline, judged (length before) (length t) l s (lines (length before + length l + 1) rest) (Err f) (omega (arith, long)) q) refl));
        passed = λ _. b.begins;
      }

  -- or is not ended
  open_fault : (before l : List ℕ) (s : Said) (f : Fault) → AllByRecursion Inline l → l ≢ [] → Before before s → said_on n (length before + length l) s (record { at = length before; bytes = l } ∷ []) ≡ Err f → FaultIsFirst n (before ++ l) f
  open_fault before l s f inline some b q =
      let is : f ≡ sheet_fault MalformedSheet (length before) = grind (arith, nat_tests) in
      let end : length (before ++ l) ≡ length before + length l = length-append before l in
      record {
        before = before;
        bytes = l;
        after = [];
        is_text = ap (λ t. before ++ t) (sym (append-nil l));
        byte = ap (λ g. g.byte) is;
        rule = ap (λ g. g.rule) is;
        named = last_line;
        allowed = rw is refl;
        is_named = (some, inline);
        ends_there = refl;
        refused = λ rest k.
            rw (k, append-nil l) (none_said (before ++ l) (rw (b.on l (length (before ++ l)) (omega (arith, end)), lines_last (length before) l inline some, end) (is_err _ f q)));
        passed = λ _. b.begins;
      }

  -- a line that is ended has the fault, or it stands after it
  fed : (before l g : List ℕ) (s : Said) (f : Fault) (end : ℕ) → AllByRecursion Inline l → Before before s → end ≡ length before + length l + 1 + length g → (x : Result Said Fault) → said_by n (length before) s (line_of (length before) l) ≡ x
      → said_on n end s (record { at = length before; bytes = l } ∷ lines (length before + length l + 1) g) ≡ Err f
      → ((t : Said) → Before (before ++ (l ++ 10 ∷ [])) t → said_on n end t (lines (length before + length l + 1) g) ≡ Err f → FaultIsFirst n ((before ++ (l ++ 10 ∷ [])) ++ g) f) → FaultIsFirst n (before ++ (l ++ 10 ∷ g)) f
  fed before l g s f end inline b long (Err e) is q rec =
      line_fault before l g s f inline b (is ∙ (sym (judged (length before) end l s (lines (length before + length l + 1) g) (Err e) (omega (arith, long)) is) ∙ q))
  fed before l g s f end inline b long (Ok t) is q rec =
      let (x, says, adds) = said_line (length before) s t (line_of (length before) l) is in
      let whole : (before ++ (l ++ 10 ∷ [])) ++ g ≡ before ++ (l ++ 10 ∷ g) = simp append_assoc in
      rw whole at (rec t (before_more before l s t x inline b says adds) (sym (judged (length before) end l s (lines (length before + length l + 1) g) (Ok t) (omega (arith, long)) is) ∙ q))

  lines_fault : (ls : List (List ℕ)) (before text : List ℕ) (s : Said) (f : Fault) → Lines ls text → Before before s → said_on n (length before + length text) s (lines (length before) text) ≡ Err f → FaultIsFirst n (before ++ text) f
  lines_fault [] before text s f i b q = rw i (end_fault before s f b (rw (i, add-zero) at q))
  lines_fault (l ∷ ls) before text s f i b q = elim i.1 [
    | inl t ↦
        let g = t.0 in
        let on = before ++ (l ++ 10 ∷ []) in
        let at : length on ≡ length before + length l + 1 = omega (arith, length-append before (l ++ 10 ∷ []), length-append l (10 ∷ [])) in
        let end : length before + length text ≡ length before + length l + 1 + length g = omega (arith, ap length t.1, length-append l (10 ∷ g)) in
        rw t.1 (fed before l g s f (length before + length l + 1 + length g) i.0 b refl (said_by n (length before) s (line_of (length before) l)) refl (rw (end, t.1, lines_feed (length before) l g i.0) at q)
        (λ u c r. lines_fault ls on g u f t.2 c (rw at r)))
    | inr t ↦ rw t.0 (open_fault before l s f i.0 t.2 b (rw (t.0, lines_last (length before) l i.0 t.2) at q))
  ]

  first_long : (text : List ℕ) (f : Fault) → MOST_SHEET_BYTES < length text → f ≡ sheet_fault MalformedSheet MOST_SHEET_BYTES → FaultIsFirst n text f
  first_long text f long is =
      let before = take MOST_SHEET_BYTES text in
      let rest = drop MOST_SHEET_BYTES text in
      let front : length before ≡ MOST_SHEET_BYTES = length-take-le MOST_SHEET_BYTES text (omega arith) in
      let one : length (take 1 rest) ≡ 1 = length-take-le 1 rest (omega (arith, length-drop MOST_SHEET_BYTES text)) in
      record {
        before = before;
        bytes = take 1 rest;
        after = drop 1 rest;
        is_text = sym (ap (λ t. before ++ t) (take-append-drop 1 rest) ∙ take-append-drop MOST_SHEET_BYTES text);
        byte = ap (λ y. y.byte) is ∙ sym front;
        rule = ap (λ y. y.rule) is;
        named = excess;
        allowed = rw is refl;
        is_named = (front, one);
        ends_there = tt;
        refused = λ after _. rw (long_err (before ++ (take 1 rest ++ after)) (omega (arith, length-append before (take 1 rest ++ after), length-append (take 1 rest) after))) refl;
        passed = λ k. absurd (k refl);
      }

pub refusing_is_first : RefusingIsFirst
refusing_is_first n text f e = elim (order n (length text) MOST_SHEET_BYTES) [
  | inl short ↦ lines_fault n (bytes_of (lines 0 text)) [] text nothing_said f (lines_of 0 text) (before_none n) (rw zero-add (sym (short_is n text short) ∙ e))
  | inr long ↦ first_long n text f long (fault_is (sheet_of n text) (long_err n text long) e)
]
  where
    fault_is : (x : Result Said Fault) → x ≡ Err (sheet_fault MalformedSheet MOST_SHEET_BYTES) → x ≡ Err f → f ≡ sheet_fault MalformedSheet MOST_SHEET_BYTES
    fault_is x p q = cc
