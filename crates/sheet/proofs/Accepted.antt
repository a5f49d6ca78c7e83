-- A bench sheet is accepted with these names and holds exactly if it is their one text.
use Rattle.std.proofs.Common.{◌≡◌, ℕ, ◌+◌, ◌≤◌, ◌<◌, false, List, [], ◌∷◌, ◌++◌, length, Some, Ok, Err, Option, Result, ap, arith, true, ◌≢◌, decimal, flat_map, inl, inr, append-nil, append_assoc, length-append}
use Rattle.std.proofs.lemmas.Grind.{common_steps}
use Rattle.std.proofs.lemmas.List.{nil_from_length}
use Rattle.std.proofs.lemmas.Bool.{and_from}
use Rattle.std.proofs.lemmas.Bool.Decides.{nat_tests}
use Rattle.parts.specs.declared.fault.Fault.{Fault}
use Rattle.parts.specs.Distinct.{names as names_part, is_distinct}
use Rattle.parts.proofs.DistinctLaws.{is_distinct_push}
use Rattle.parts.specs.declared.mark.Mark.{Mark}
use Rattle.text.specs.Pieces.{Piece, lines}
use Rattle.text.proofs.LineLaws.{lines_feed, lines_last, lines_of}
use Rattle.sheet.specs.Reading.{Said, nothing_said, Line, line_at, added, said_by, said_on, is_name, sheet_of}
use Rattle.sheet.specs.Reading.Line.{part, hold}
use Rattle.sheet.proofs.LineOf.{Says, says_line, line_says, says_inline, part_ends, hold_ends, part_length, part_words, hold_words, hold_length}
use Rattle.std.specs.List.{list_all}
use Rattle.text.specs.Layout.{Lines}
use Rattle.sheet.specs.Format.{part_line, hold_line, part_lines, placed}
use Rattle.sheet.specs.Law.{ReadingIsTheSheet}

-- What is read of a sheet's lines is what their text stands for.
-- A sheet's lines read one by one: the line that comes first, and what it adds.
-- what distinct marks say of one of them
distinct_mark : (n : ℕ) (before : List Mark) (m : Mark) (after : List Mark) → is_distinct n (before ++ m ∷ after) ≡ true → (1 ≤ m.part) × (m.part ≤ n) × (names_part before m.part ≡ false)
distinct_mark n [] m after h = grind (arith, nat_tests)
distinct_mark n (s ∷ before) m after h = grind (arith, common_steps, distinct_mark n before m after)

-- what a line adds to what was said
abbrev pub Adds : ℕ → Said → Line → Said → Type 0
Adds n s (part k name) t = (k ≡ length s.names + 1) × (k ≤ n) × (s.holds ≡ []) × (t ≡ record s { names = s.names ++ name ∷ [] })
Adds n s (hold m) t = (1 ≤ m.part) × (m.part ≤ n) × (names_part s.holds m.part ≡ false) × (t ≡ record s { holds = s.holds ++ m ∷ [] })

-- it is added exactly if it may be
adds_added : (n at : ℕ) (s t : Said) (l : Line) → Adds n s l t → added n at s l ≡ Ok t
adds_added n at s t l h = grind (arith, nat_tests)

pub added_adds : (n at : ℕ) (s t : Said) (l : Line) → added n at s l ≡ Ok t → Adds n s l t
added_adds n at s t l h = grind (arith, nat_tests, nil_from_length s.holds)

-- how reading goes on after a line
abbrev going : ℕ → ℕ → List Piece → Result Said Fault → Result Said Fault
going n end ls (Err e) = Err e
going n end ls (Ok t) = said_on n end t ls

-- a line that is ended, and says something that may be added, is read
pub said_line : (n end p q : ℕ) (s t : Said) (l : Line) (bytes rest : List ℕ) → q ≡ p + length bytes + 1 → q ≤ end → Says p bytes l → Adds n s l t
    → said_on n end s (lines p (bytes ++ 10 ∷ rest)) ≡ said_on n end t (lines q rest)
said_line n end p q s t l bytes rest next ended says adds =
    grind (arith, nat_tests, says_line p bytes l says, adds_added n p s t l adds, lines_feed p bytes rest (says_inline p bytes l says))

-- what was read said something that was added
step : (n end p : ℕ) (s u : Said) (o : Option Line) (ls : List Piece) → going n end ls (said_by n p s o) ≡ Ok u
    → (l : Line) × (t : Said) × (o ≡ Some l) × (added n p s l ≡ Ok t) × (said_on n end t ls ≡ Ok u)
step n end p s u o ls h = grind arith

-- what a line that was read added
pub line_said : (n end p : ℕ) (s u : Said) (bytes : List ℕ) (ls : List Piece) → said_on n end s (record { at = p; bytes = bytes } ∷ ls) ≡ Ok u
    → (l : Line) × (t : Said) × (p + length bytes < end) × Says p bytes l × Adds n s l t × (said_on n end t ls ≡ Ok u)
line_said n end p s u bytes ls h =
    let (l, t, line, add, more) = step n end p s u (line_at end (record { at = p; bytes = bytes })) ls h in
    (l, t, grind (arith, nat_tests), grind (arith, nat_tests, line_says p bytes l), added_adds n p s t l add, more)

-- what the rest of a sheet says, from p on and after what was said before
pub record SaysRest (n p : ℕ) (s t : Said) (text : List ℕ) (names : List (List ℕ)) (holds : List Mark) : Type 0 where
  pub named : t.names ≡ s.names ++ placed p (length s.names + 1) names
  pub held : t.holds ≡ s.holds ++ holds
  pub is_text : text ≡ part_lines (length s.names + 1) names ++ flat_map hold_line holds
  pub each : length s.names + length names ≡ n
  pub names_are : list_all is_name names ≡ true
  pub sound : is_distinct n s.holds ≡ true → is_distinct n t.holds ≡ true
  pub first : s.holds ≢ [] → names ≡ []

module _ (n : ℕ) where
  abbrev Rest : ℕ → Said → Said → List ℕ → Type 0
  Rest p s t text = (names : List (List ℕ)) × (holds : List Mark) × SaysRest n p s t text names holds

  -- at the end of the sheet nothing is left
  rest_none : (p : ℕ) (s : Said) → length s.names ≡ n → Rest p s s []
  rest_none p s all = ([], [], grind (arith, append-nil s.names, append-nil s.holds))

  -- one line before a rest
  rest_step : (p : ℕ) (s u t : Said) (l : Line) (bytes rest : List ℕ) → Says p bytes l → Adds n s l u → Rest (p + length bytes + 1) u t rest → Rest p s t (bytes ++ 10 ∷ rest)
  rest_step p s u t (part j name) bytes rest says adds (names, holds, r) =
      let k = length s.names + 1 in
      let piece : name ≡ record { at = p + (length (decimal k) + 6); bytes = name.bytes } = grind arith in (
        name.bytes ∷ names,
        holds,
        grind (
          arith,
          part_length k name.bytes,
          length-append s.names (name ∷ []),
          append_assoc s.names (name ∷ []) (placed (p + length bytes + 1) (length u.names + 1) names),
          part_ends k name.bytes rest,
          append_assoc (part_line k name.bytes) (part_lines (k + 1) names) (flat_map hold_line holds),
          and_from (is_name name.bytes) (list_all is_name names),
        ),
      )
  rest_step p s u t (hold m) bytes rest says adds (names, holds, r) =
      ([], m ∷ holds, grind (arith, length-append s.holds (m ∷ []), append_assoc s.holds (m ∷ []) holds, hold_ends m rest, is_distinct_push n s.holds m))

  -- lines that were read say a rest: the last of them was ended
  pub rest_of : (end : ℕ) (ls : List (List ℕ)) (p : ℕ) (s t : Said) (text : List ℕ) → Lines ls text → end ≡ p + length text → said_on n end s (lines p text) ≡ Ok t → Rest p s t text
  rest_of end [] p s t text i e h =
      let same : (s ≡ t) × (length s.names ≡ n) = grind (arith, nat_tests) in
      rw (i, ← same.0) (rest_none p s same.1)
  rest_of end (l ∷ ls) p s t text i e h = elim i.1 [
    | inl g ↦
        let q = p + length l + 1 in
        let (x, u, ended, says, adds, on) = line_said n end p s t l (lines q g.0) (rw (g.1, lines_feed p l g.0 i.0) at h) in
        rw g.1 (rest_step p s u t x l g.0 says adds (rest_of end ls q u t g.0 g.2 (omega (arith, ap length g.1, length-append l (10 ∷ g.0))) on))
    | inr g ↦
        let (x, u, ended, says, adds, on) = line_said n end p s t l [] (rw (g.0, lines_last p l i.0 g.2) at h) in
        absurd (omega (arith, ap length g.0))
  ]

-- The text of names and holds that the format allows is read as these.
module _ (n end : ℕ) where
  -- the lines of holds are read as these
  pub holds_on : (hs : List Mark) (p : ℕ) (s : Said) → n < 100000 → length s.names ≡ n → is_distinct n (s.holds ++ hs) ≡ true → end ≡ p + length (flat_map hold_line hs)
      → said_on n end s (lines p (flat_map hold_line hs)) ≡ Ok (record { names = s.names; holds = s.holds ++ hs })
  holds_on [] p s few all sound e = grind (arith, nat_tests, append-nil s.holds)
  holds_on (m ∷ hs) p s few all sound e =
      let t : Said = record s { holds = s.holds ++ m ∷ [] } in
      let q = p + length (hold_line m) in
      let (lo, hi, new) = distinct_mark n s.holds m hs sound in
      let one = said_line n end p q s t (hold m) (hold_words m) (flat_map hold_line hs) in
      grind (arith, one, hold_ends m (flat_map hold_line hs), hold_length m, length-append (hold_line m) (flat_map hold_line hs), append_assoc s.holds (m ∷ []) hs, holds_on hs q t)

  -- and those of names before them
  pub names_on : (names : List (List ℕ)) (p k : ℕ) (s : Said) (hs : List Mark) → n < 100000 → k ≡ length s.names + 1 → length s.names + length names ≡ n → list_all is_name names ≡ true
      → s.holds ≡ [] → is_distinct n hs ≡ true → end ≡ p + length (part_lines k names ++ flat_map hold_line hs)
      → said_on n end s (lines p (part_lines k names ++ flat_map hold_line hs)) ≡ Ok (record { names = s.names ++ placed p k names; holds = hs })
  names_on [] p k s hs few next all valid empty sound e = grind (arith, holds_on hs p s, append-nil s.names)
  names_on (name ∷ names) p k s hs few next all valid empty sound e =
      let piece : Piece = record { at = p + (length (decimal k) + 6); bytes = name } in
      let t : Said = record { names = s.names ++ piece ∷ []; holds = s.holds } in
      let rest = part_lines (k + 1) names ++ flat_map hold_line hs in
      let q = p + length (part_line k name) in
      let one = said_line n end p q s t (part k piece) (part_words k name) rest in
      grind (
        arith,
        one,
        part_length k name,
        part_ends k name rest,
        length-append (part_line k name) rest,
        length-append s.names (piece ∷ []),
        append_assoc (part_line k name) (part_lines (k + 1) names) (flat_map hold_line hs),
        append_assoc s.names (piece ∷ []) (placed q (k + 1) names),
        names_on names q (k + 1) t hs,
      )

-- each name takes a byte or more
many : (names : List (List ℕ)) (k : ℕ) → length names ≤ length (part_lines k names)
many [] k = omega arith
many (name ∷ names) k = omega (arith, many names (k + 1), length-append (part_line k name) (part_lines (k + 1) names))

-- A bench sheet is accepted with these names and holds exactly if it is their one text.
pub reading_is_the_sheet : ReadingIsTheSheet
unfolding sheet_of
reading_is_the_sheet n text = record {
  only = λ s e.
      let on : said_on n (length text) nothing_said (lines 0 text) ≡ Ok s = grind (arith, nat_tests) in
      let r = rest_of n (length text) _ 0 nothing_said s text (lines_of 0 text) (omega arith) on in
      (r.0, r.2.named, grind (arith, nat_tests, r.2));
  each = λ names holds f. grind (arith, nat_tests, f, many names 1, length-append (part_lines 1 names) (flat_map hold_line holds), names_on n (length text) names 0 1 nothing_said holds);
}
