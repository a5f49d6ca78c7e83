-- The second pass, line by line.
use Rattle.std.proofs.Common.{◌≡◌, ℕ, ◌+◌, ◌≤◌, List, [], ◌∷◌, ◌++◌, length, take, drop, set, ◌∙◌, arith, true, map, ℤ, nat_abs, Ok, sym, ap, inl, inr}
use Rattle.std.proofs.lemmas.List.{append-nil, append_assoc, length-set, length-take-le, take-append-drop, take_more_set, drop-set-lt, drop-drop, length-append, length-map, nil_from_length}
use Rattle.reading.specs.Fills.{Front, with_front, stored}
use Rattle.std.specs.List.{AllByRecursion}
use Rattle.book.specs.Meaning.{Rule}
use Rattle.parts.specs.Marks.{number_from}
use Rattle.book.specs.Tables.{mark_table, end_table, marks_limit}
use Rattle.book.proofs.TableLaws.{length_marks, length_ends}
use Rattle.grammar.specs.declared.Room.{Room}
use Rattle.text.specs.Pieces.{Piece}
use Rattle.grammar.specs.Reading.{counted, rules_of, rule_start}
use Rattle.text.proofs.LineLaws.{left_inline}
use Rattle.grammar.proofs.RuleLines.{step_rules, rules_to}
use Rattle.reading.specs.Counted.{counts, all_lines, lines_left}
use Rattle.reading.specs.declared.counted.CountedLines.{CountedLines}
use Rattle.reading.proofs.RuleSteps.{rule_stores, numbers_back}
use Rattle.reading.proofs.Counting.{some_field, rules_counting}

-- A table that is filled from its front.
module _ {X : Type 0} (before all : List X) where
  -- nothing is written yet
  pub front_none : length all ≤ length before → Front before all all before 0
  front_none h = grind arith

  -- one entry more
  pub front_more : (left table : List X) (k : ℕ) (x : X) → Front before all (x ∷ left) table k → Front before all left (set table k x) (k + 1)
  front_more left table k x f =
      grind (arith, length-set table k x, take_more_set table k x, append_assoc (take k table) (x ∷ []) left, drop-set-lt (k + 1) table k x, drop-drop 1 k table, drop-drop 1 k before, f)

  -- all is written
  pub front_all : (table : List X) (k : ℕ) → Front before all [] table k → table ≡ all ++ drop (length all) before
  front_all table k f =
      grind (arith, f.front, f.rest, append-nil (take k table), length-take-le k table (omega (arith, f.room, f.long)), take-append-drop k table)

-- the room that these tables give
abbrev pub room_in : ℕ → List ℤ → List ℕ → Room
room_in n marks ends = record { n = n; marks = length marks; ends = length ends }

module _ (room : Room) (end m : ℕ) (rs : List Rule) (marks₀ : List ℤ) (ends₀ : List ℕ) where
  -- how far the tables are filled where these lines are left
  pub record Fills (lines : List Piece) (done used : ℕ) (marks : List ℤ) (ends : List ℕ) : Type 0 where
    pub left : List Rule
    pub reads : rules_of room end m done used lines ≡ Ok left
    pub few : used ≤ marks_limit room.marks
    pub in_marks : Front marks₀ (mark_table rs) (mark_table left) marks used
    pub in_ends : Front ends₀ (end_table 0 rs) (end_table used left) ends done

module _ {room : Room} {end m : ℕ} {rs : List Rule} {marks₀ : List ℤ} {ends₀ : List ℕ} where
  -- at first nothing is
  pub fills_none : (lines : CountedLines) → room.marks ≡ length marks₀ → room.ends ≡ length ends₀ → rules_of room end m 0 0 (lines_left lines) ≡ Ok rs → Fills room end m rs marks₀ ends₀ (lines_left lines) 0 0 marks₀ ends₀
  fills_none lines hm he e =
      let all = all_lines lines in
      let g = (rules_to room end m all rs 0 0 (left_inline lines.lines) (omega arith) (omega arith) (omega arith) (sym (rules_counting room end m all 0 0) ∙ e)).1 in
      record {
        left = rs;
        reads = e;
        few = omega arith;
        in_marks = front_none marks₀ (mark_table rs) (omega (arith, length_marks rs, g.fits));
        in_ends = front_none ends₀ (end_table 0 rs) (omega (arith, length_ends 0 rs, g.all, g.lines));
      }

  module _ {lines : List Piece} {done used : ℕ} {marks : List ℤ} {ends : List ℕ} (f : Fills room end m rs marks₀ ends₀ lines done used marks ends) {l : Piece} {ls : List Piece} (e : lines ≡ l ∷ ls) where
    -- what the next line stores
    pub record Takes : Type 0 where
      pub rule : Rule
      pub more : List Rule
      pub left_is : f.left ≡ rule ∷ more
      pub numbers : map number_from rule ≡ stored (counted l)
      pub small : AllByRecursion (λ z. nat_abs z ≤ room.n) (stored (counted l))
      pub few : used + length rule ≤ marks_limit room.marks
      pub reads : rules_of room end m (done + 1) (used + length rule) ls ≡ Ok more

    pub fills_rule : counts l ≡ true → Takes
    fills_rule c =
        elim (step_rules room end m done used l ls f.left (sym (ap (rules_of room end m done used) e) ∙ f.reads)) [
          | inl k ↦ let (g, gs, is) = some_field l c in grind (arith, k.0)
          | inr k ↦
              let (r, more, is, lt, rule, rest) = k in
              let t = rule_stores room (rule_start done used l) [] (counted l) r rule in
              record {
                rule = r;
                more = more;
                left_is = is;
                numbers = grind (arith, t.goes_on, numbers_back (stored (counted l)));
                small = t.small;
                few = t.fits (omega (arith, f.few));
                reads = rest;
              }
        ]

    module _ (t : Takes) where
      pub rule_length : length t.rule ≡ length (stored (counted l))
      rule_length = grind (arith, length-map t.rule number_from, t.numbers)

      -- and the tables after it
      pub fills_more : (used' : ℕ) (marks' : List ℤ) → used' ≡ used + length (stored (counted l))
          → ((before all more : List ℤ) → Front before all (stored (counted l) ++ more) marks used → Front before all more marks' used') → Fills room end m rs marks₀ ends₀ ls (done + 1) used' marks' (set ends done used')
      fills_more used' marks' u goes =
          let is-used : used' ≡ used + length t.rule = omega (arith, rule_length) in
          record {
            left = t.more;
            reads = rw is-used t.reads;
            few = omega (arith, t.few);
            in_marks = goes marks₀ (mark_table rs) (mark_table t.more) (rw (t.left_is, t.numbers) at f.in_marks);
            in_ends = front_more ends₀ (end_table 0 rs) (end_table used' t.more) ends done used' (rw (t.left_is, ← is-used) at f.in_ends);
          }

      -- there is room for the rule's marks
      pub marks_room : used + length (stored (counted l)) ≤ length marks
      marks_room = grind (arith, f.in_marks.room, f.in_marks.long, t.left_is, t.numbers, length-append (stored (counted l)) (mark_table t.more))

  module _ {lines : List Piece} {done used : ℕ} {marks : List ℤ} {ends : List ℕ} (f : Fills room end m rs marks₀ ends₀ lines done used marks ends) where
    -- where no line is left, or no entry of the table of ends, no rule is, and all is filled
    abbrev All : Type 0
    All = (marks ≡ with_front (mark_table rs) marks₀) × (ends ≡ with_front (end_table 0 rs) ends₀)

    fills_all : f.left ≡ [] → All
    fills_all none = (
      front_all marks₀ (mark_table rs) marks used (rw none at f.in_marks),
      front_all ends₀ (end_table 0 rs) ends done (rw none at f.in_ends),
    )

    pub none_lines : lines ≡ [] → All
    none_lines e = fills_all (grind arith)

    pub none_ends : length ends₀ ≤ done → All
    none_ends h = fills_all (nil_from_length f.left (omega (arith, f.in_ends.room, length_ends used f.left)))
