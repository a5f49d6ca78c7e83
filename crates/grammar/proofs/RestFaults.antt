-- The fault of the lines after the head: what follows it does not change it, and up to there the lines can go on to rules.
use Rattle.std.proofs.Common.{◌≡◌, ◌≢◌, ℕ, zero, suc, ◌+◌, ◌-◌, ◌<◌, ◌≤◌, true, false, cond, leb, List, [], ◌∷◌, ◌++◌, length, get_or, Ok, Err, codes, Result, refl, sym, ap, ◌∙◌, inl, inr, arith, ◌⊎◌, IsErr, IsOk, append-nil, append_assoc, length-append}
use Rattle.std.specs.List.{AllByRecursion}
use Rattle.std.proofs.lemmas.Bool.{cases_Bool, lt-leb}
use Rattle.std.proofs.lemmas.Bool.Decides.{nat_tests}
use Rattle.parts.specs.declared.fault.Fault.{Fault}
use Rattle.parts.specs.declared.limits.TheConstants.{MOST_PARTS, MOST_TEXT_MARKS, MOST_TEXT_RULES}
use Rattle.parts.specs.declared.refusal.Refusal.TheVariants.{MalformedRule, RuleCount}
use Rattle.text.specs.Pieces.{Piece, lines, fields}
use Rattle.text.specs.Layout.{Blank, Inline, Field, EndsField, EndsWord, EndsLine, StartsField, StartsLine, Fields, Lines}
use Rattle.text.proofs.Each.{each_append, each_weaker}
use Rattle.text.proofs.LineLaws.{bytes_of, lines_feed, lines_last}
use Rattle.text.proofs.FieldLaws.{fields_none, fields_of}
use Rattle.text.proofs.Cuts.{InLine, OneLine, one_line, first_line, fields_word, fields_some, SomeField, starts_blank, each_front}
use Rattle.book.specs.Meaning.{Rule}
use Rattle.book.specs.Tables.{marks_limit}
use Rattle.grammar.specs.declared.RuleStart.{RuleStart}
use Rattle.grammar.specs.declared.Room.{Room}
use Rattle.grammar.specs.Law.{Named, may_name, IsNamed, MayFollow, MayReplace}
use Rattle.grammar.specs.Law.Named.{excess, field, line, line_end, text_end}
use Rattle.grammar.specs.Reading.{counted, counted_fields, rule_of, rules_of, fault_at, with_rule, rule_start}
use Rattle.grammar.proofs.RuleLines.{Kept, rule_from, rule_to, rules_rule, rules_skip, read_line, read_rule}
use Rattle.grammar.proofs.RuleFaults.{piece, full_room, NoRule, SomeRule, NoEnd, RuleFault, rule_fault, zero_ends}
use Rattle.grammar.proofs.CutLaws.{Cut, cut_after, first_byte, plain_counted, counted_plain, ends_word, in_cut, zeros, zeros_end, zeros_word, with_ok, with_err, err_of, is_err, some_byte, field_place}

-- lines that do not count change nothing
blank_alone : (room : Room) (e m done used p : ℕ) (l : List ℕ) → AllByRecursion Inline l → counted (piece p l) ≡ [] → rules_of room e m done used (lines p (l ++ [])) ≡ rules_of room e m done used []
blank_alone room e m done used p [] i none = refl
blank_alone room e m done used p (b ∷ bs) i none =
    ap (λ t. rules_of room e m done used (lines p t)) (append-nil (b ∷ bs)) ∙ (ap (rules_of room e m done used) (lines_last p (b ∷ bs) i (λ e. cc)) ∙ rules_skip room e m done used (piece p (b ∷ bs)) [] none)

module _ (n m_entries e_entries m : ℕ) (few : n ≤ MOST_PARTS) (low : m ≤ MOST_TEXT_RULES) where
  abbrev room : Room
  room = record { n = n; marks = m_entries; ends = e_entries }

  -- the lines are refused, and read, wherever the text ends
  abbrev pub NoRules : ℕ → ℕ → ℕ → List ℕ → Type 0
  NoRules done used p t = (e : ℕ) → IsErr (rules_of room e m done used (lines p t))

  abbrev pub SomeRules : ℕ → ℕ → ℕ → List ℕ → Type 0
  SomeRules done used p t = (e : ℕ) → IsOk (rules_of (full_room n) e m done used (lines p t))

  -- a rule that was read passes, and a line for each further rule that has its 0 alone
  line_passes : (k done used p : ℕ) (t : List ℕ) (r : Rule) → AllByRecursion Inline t → t ≢ [] → done + 1 + k ≡ m
      → rule_of (full_room n) (rule_start done used (piece p t)) [] (counted (piece p t)) ≡ Ok r → SomeRules done used p (t ++ zeros k)
  line_passes zero done used p t r i some all q e =
      let last : rules_of (full_room n) e m (done + 1) (used + length r) [] ≡ Ok [] = grind (arith, nat_tests) in
      rw (append-nil t, lines_last p t i some, rules_rule (full_room n) e m done used (piece p t) [] r (omega arith) q, last) refl
  line_passes (suc k) done used p t r i some all q e =
      let at = p + length t + 1 in
      let one = zero_ends n m_entries e_entries (done + 1 + 1) (used + length r) (omega arith) [] at [] tt refl (at + 1) in
      rw (lines_feed p t (48 ∷ zeros k) i, rules_rule (full_room n) e m done used (piece p t) (lines at (48 ∷ zeros k)) r (omega arith) q)
      (with_ok r _ (line_passes k (done + 1) (used + length r) at (codes "0") one.0 ((λ k. omega arith), tt) (λ e. cc) (omega arith) one.1 e))

  -- so do lines of a 0 each
  pub zeros_pass : (k done used p : ℕ) → done + 1 + k ≡ m → SomeRules done used p (codes "0" ++ zeros k)
  zeros_pass k done used p all e =
      let one = zero_ends n m_entries e_entries (done + 1) used (omega arith) [] p [] tt refl (p + 1) in
      line_passes k done used p (codes "0") one.0 ((λ k. omega arith), tt) (λ e. cc) all one.1 e

  -- and after a line that does not count too
  blank_passes : (k done used p : ℕ) (l : List ℕ) → AllByRecursion Inline l → counted (piece p l) ≡ [] → done + k ≡ m → SomeRules done used p (l ++ zeros k)
  blank_passes zero done used p l i none all e =
      let last : rules_of (full_room n) e m done used [] ≡ Ok [] = grind (arith, nat_tests) in
      rw (blank_alone (full_room n) e m done used p l i none, last) refl
  blank_passes (suc k) done used p l i none all e =
      let at = p + length l + 1 in
      rw (lines_feed p l (48 ∷ zeros k) i, rules_skip (full_room n) e m done used (piece p l) (lines at (48 ∷ zeros k)) none) (zeros_pass k done used at (omega arith) e)

  -- a line that counts and has no rule, or is one too many, is refused
  line_err : (done used e : ℕ) (l : Piece) (ls : List Piece) → SomeField (counted l) → (done < m → IsErr (rule_of room (rule_start done used l) [] (counted l))) → IsErr (rules_of room e m done used (l ∷ ls))
  line_err done used e l ls some h = by (counted l) some h
    where
      rule : (y : Result Rule Fault) → IsErr y → IsErr (read_rule room e m done used ls y)
      rule (Ok r) k = cc
      rule (Err x) k = refl

      by : (fs : List Piece) → SomeField fs → (done < m → IsErr (rule_of room (rule_start done used l) [] fs)) → IsErr (read_line room e m done used l ls fs)
      by [] some h = cc
      by (x ∷ fs) some h = elim (cases_Bool (leb m done)) [
        | inl high ↦ rw high refl
        | inr lt ↦ rw lt (rule (rule_of room (rule_start done used l) [] (x ∷ fs)) (h (grind (arith, nat_tests))))
      ]

  -- a rule that was read is read for full tables too
  rule_full : (done used p : ℕ) (l : List ℕ) (r : Rule) → used ≤ marks_limit m_entries → done < m → rule_of room (rule_start done used (piece p l)) [] (counted (piece p l)) ≡ Ok r
      → (rule_of (full_room n) (rule_start done used (piece p l)) [] (counted (piece p l)) ≡ Ok r) × (used + length r ≤ marks_limit m_entries)
  rule_full done used p l r fits lt q =
      let start = rule_start done used (piece p l) in
      let (rest, same, written, kept) = rule_to room start (counted (piece p l)) [] r refl (omega arith) (λ k. omega arith) q in
      let full : Kept (full_room n) start r = record { sound = kept.sound; fits = omega (arith, kept.fits); line = omega arith } in
      (rw same (rule_from (full_room n) start rest [] (counted (piece p l)) (omega arith) (rw same at full) written), kept.fits)

  -- what a line was, where a fault stands in it or after it
  module _ (done used p : ℕ) (l tail : List ℕ) (inline : AllByRecursion Inline l) (ends : EndsLine tail) (le : done ≤ m) (ps : List Piece) (e : ℕ) (f : Fault) where
    abbrev Passed : Type 0
    Passed = (counted (piece p l) ≡ []) × (rules_of room e m done used ps ≡ Err f)

    abbrev Read : Type 0
    Read = (r : Rule) × (done < m) × (rule_of room (rule_start done used (piece p l)) [] (counted (piece p l)) ≡ Ok r) × (rules_of room e m (done + 1) (used + length r) ps ≡ Err f)

    abbrev Here : Type 0
    Here = Cut p (l ++ tail) f (NoRules done used p) (SomeRules done used p)

    -- a line too many
    too_many : (x : Piece) (fs : List Piece) → counted (piece p l) ≡ x ∷ fs → m ≤ done → f ≡ fault_at RuleCount x.at (done + 1) → Here
    too_many x fs q high is =
        let c = counted_plain p l x fs q in
        let has : fields p l ≡ x ∷ fs = sym (plain_counted p l c) ∙ q in
        let h : Fields (x.bytes ∷ bytes_of fs) l = rw has at (fields_of p l inline) in
        let here : x.at ≡ p + length h.0 = field_place p l x fs h.0 h.1 has h.2 h.3 h.4 h.5 in
        in_cut {N = λ t. Unit {0}} {S = λ t. fields p t ≡ []} p l tail [] f inline c ends
        (λ t more i k g some u d.
        let first = first_line p t more i g (some_byte p t some) in
        rw first.1 (line_err done used d (piece p t) first.0 (rw (plain_counted p t k) some) (λ lt. absurd (omega arith))))
        (λ t i k none. blank_passes 0 done used p t i (plain_counted p t k ∙ none) (omega arith))
        (record {
          before = h.0;
          bytes = x.bytes;
          after = h.1;
          is_line = h.2;
          byte_is = ap (λ y. y.byte) is ∙ here;
          starts = starts_blank h.0 h.3;
          field = h.4;
          ends = h.5;
          stops = λ rest k. tt;
          rest = [];
          inline = tt;
          plain = λ k. omega arith;
          passes = fields_none p (h.0 ++ []) (each_append Blank h.0 [] h.3 tt);
        })
        (rw is refl)

    -- a fault in the rule's line
    in_rule : (x : Piece) (fs : List Piece) → counted (piece p l) ≡ x ∷ fs → done < m → rule_of room (rule_start done used (piece p l)) [] (counted (piece p l)) ≡ Err f → Here
    in_rule x fs q lt h =
        let c = counted_plain p l x fs q in
        let plain = plain_counted p l c in
        let lo : done + 1 ≤ MOST_TEXT_RULES = omega arith in
        let k : ℕ = m - (done + 1) in
        let all : done + 1 + k ≡ m = omega arith in
        elim (rule_fault n m_entries e_entries (done + 1) used lo (bytes_of (fields p l)) [] p l (p + length l) f (fields_of p l inline) refl (rw plain at h)) [
          | inl x ↦
              in_cut {N = NoRule n m_entries e_entries (done + 1) used lo [] p} {S = SomeRule n m_entries e_entries (done + 1) used lo [] p} p l tail (zeros k) f inline c ends
              (λ t more i k g some no d.
              let first = first_line p t more i g (some_byte p t some) in
              rw first.1 (line_err done used d (piece p t) first.0 (rw (plain_counted p t k) some) (λ lt. rw (plain_counted p t k) (no (p + length t)))))
              (λ t i g some.
              let one = some (p + length t) in
              line_passes k done used p t one.0 i (rule_byte t one) all (rw (plain_counted p t g) (one.1)))
              x.0 x.1
          | inr y ↦
              let is : f ≡ fault_at MalformedRule (p + length l) (done + 1) = y.is in
              let some : l ≢ [] = some_byte p l (rw (← plain, q) (x, fs, refl)) in
              let on = l ++ y.rest in
              let first : counted_fields p on ≡ fields p on = plain_counted p on (first_byte l y.rest some c) in
              let one = y.passes (p + length on) in
              record {
                before = l;
                bytes = [];
                after = tail;
                is_text = refl;
                byte_is = ap (λ z. z.byte) is;
                named = line_end;
                no_excess = λ k. cc;
                allowed = rw is refl;
                is_named = refl;
                ends_there = ends;
                refused = λ rest k d.
                    let next = first_line p l rest inline k some in
                    rw next.1 (line_err done used d (piece p l) next.0 (x, fs, q) (λ lt. is_err _ f h));
                rest = y.rest ++ zeros k;
                replaces = ends_word y.rest (zeros k) y.ends (zeros_end k);
                passed =
                    rw (sym (append_assoc l y.rest (zeros k)))
                    (line_passes k done used p on one.0 (each_append Inline l y.rest inline y.inline) (rule_byte on one) all (rw first (one.1)));
              }
        ]
      where
        rule_byte : (t : List ℕ) → (r : Rule) × (rule_of (full_room n) (rule_start done used (piece p t)) [] (fields p t) ≡ Ok r) → t ≢ []
        rule_byte [] (r, e) = λ k. cc
        rule_byte (b ∷ bs) o = λ k. cc

    one_line_fault : rules_of room e m done used (piece p l ∷ ps) ≡ Err f → Here ⊎ (Passed ⊎ Read)
    one_line_fault = by (counted (piece p l)) refl
      where
        on : (x : Piece) (fs : List Piece) → counted (piece p l) ≡ x ∷ fs → done < m → (y : Result Rule Fault) → rule_of room (rule_start done used (piece p l)) [] (x ∷ fs) ≡ y → read_rule room e m done used ps y ≡ Err f → Here ⊎ (Passed ⊎ Read)
        on x fs q lt (Err y) is h = inl (in_rule x fs q lt (grind arith))
        on x fs q lt (Ok r) is h = inr (inr (r, lt, rw q is, err_of r _ f h))

        by : (fs : List Piece) → counted (piece p l) ≡ fs → read_line room e m done used (piece p l) ps fs ≡ Err f → Here ⊎ (Passed ⊎ Read)
        by [] q h = inr (inl (q, h))
        by (x ∷ fs) q h = elim (cases_Bool (leb m done)) [
          | inl high ↦ inl (too_many x fs q (grind (arith, nat_tests)) (grind arith))
          | inr lt ↦ on x fs q (grind (arith, nat_tests)) (rule_of room (rule_start done used (piece p l)) [] (x ∷ fs)) refl (rw lt at h)
        ]

  -- the text ends after a line that does not count, or after a rule
  end_blank : (done used p : ℕ) (l : List ℕ) (e : ℕ) (f : Fault) → AllByRecursion Inline l → counted (piece p l) ≡ [] → done ≤ m → e ≡ p + length l → rules_of room e m done used [] ≡ Err f → Cut p l f (NoRules done used p) (SomeRules done used p)
  end_blank done used p l e f i none le at q =
      let lt : done < m = grind (arith, nat_tests) in
      let is : f ≡ fault_at RuleCount e (done + 1) = grind (arith, nat_tests) in
      record {
        before = l;
        bytes = [];
        after = [];
        is_text = sym (append-nil l);
        byte_is = ap (λ y. y.byte) is ∙ at;
        named = text_end;
        no_excess = λ k. cc;
        allowed = rw is refl;
        is_named = refl;
        ends_there = refl;
        refused = λ rest k d. rw (k, blank_alone room d m done used p l i none) (is_err (rules_of room d m done used []) (fault_at RuleCount d (done + 1)) (grind (arith, nat_tests)));
        rest = zeros (m - done);
        replaces = zeros_word (m - done);
        passed = blank_passes (m - done) done used p l i none (omega arith);
      }

  end_rule : (done used p : ℕ) (l : List ℕ) (r : Rule) (e : ℕ) (f : Fault) → AllByRecursion Inline l → l ≢ [] → used ≤ marks_limit m_entries → done < m → rule_of room (rule_start done used (piece p l)) [] (counted (piece p l)) ≡ Ok r → e ≡ p + length l
      → rules_of room e m (done + 1) (used + length r) [] ≡ Err f → Cut p l f (NoRules done used p) (SomeRules done used p)
  end_rule done used p l r e f i some fits lt rule at q =
      let more : done + 1 < m = grind (arith, nat_tests) in
      let is : f ≡ fault_at RuleCount e (done + 1 + 1) = grind (arith, nat_tests) in
      record {
        before = l;
        bytes = [];
        after = [];
        is_text = sym (append-nil l);
        byte_is = ap (λ y. y.byte) is ∙ at;
        named = text_end;
        no_excess = λ k. cc;
        allowed = rw is refl;
        is_named = refl;
        ends_there = refl;
        refused = λ rest k d.
            rw (k, append-nil l, lines_last p l i some, rules_rule room d m done used (piece p l) [] r lt rule)
            (with_err r _ (is_err (rules_of room d m (done + 1) (used + length r) []) (fault_at RuleCount d (done + 1 + 1)) (grind (arith, nat_tests))));
        rest = zeros (m - (done + 1));
        replaces = zeros_word (m - (done + 1));
        passed = line_passes (m - (done + 1)) done used p l r i some (omega arith) (rule_full done used p l r fits lt rule).0;
      }

  pub rest_fault : (ls : List (List ℕ)) (done used p : ℕ) (text : List ℕ) (e : ℕ) (f : Fault) → Lines ls text → e ≡ p + length text → used ≤ marks_limit m_entries → done ≤ m
      → rules_of room e m done used (lines p text) ≡ Err f → Cut p text f (NoRules done used p) (SomeRules done used p)
  rest_fault [] done used p text e f i at fits le q = rw i (end_blank done used p [] e f tt refl le (omega (arith, ap length i)) (rw i at q))
  rest_fault (l ∷ ls) done used p text e f i at fits le q = elim i.1 [
    | inl t ↦
        let g = t.0 in
        let from = p + length l + 1 in
        let end : e ≡ from + length g = omega (arith, ap length t.1, length-append l (10 ∷ g)) in
        rw t.1 (elim (one_line_fault done used p l (10 ∷ g) i.0 refl le (lines from g) e f (rw (t.1, lines_feed p l g i.0) at q)) [
          | inl here ↦ here
          | inr (inl k) ↦
              cut_after p l g f
              (λ t r d. rw (lines_feed p l t i.0, rules_skip room d m done used (piece p l) (lines from t) k.0) (r d))
              (λ t r d. rw (lines_feed p l t i.0, rules_skip (full_room n) d m done used (piece p l) (lines from t) k.0) (r d))
              (rest_fault ls done used from g e f t.2 end fits le k.1)
          | inr (inr k) ↦
              let full = rule_full done used p l k.0 fits k.1 k.2 in
              cut_after p l g f
              (λ t r d. rw (lines_feed p l t i.0, rules_rule room d m done used (piece p l) (lines from t) k.0 k.1 k.2) (with_err k.0 _ (r d)))
              (λ t r d. rw (lines_feed p l t i.0, rules_rule (full_room n) d m done used (piece p l) (lines from t) k.0 k.1 full.0) (with_ok k.0 _ (r d)))
              (rest_fault ls (done + 1) (used + length k.0) from g e f t.2 end full.1 (omega arith) k.3)
        ])
    | inr t ↦
        let end : e ≡ p + length l = omega (arith, ap length t.0) in
        rw t.0 (elim (one_line_fault done used p l [] i.0 tt le [] e f (rw (t.0, lines_last p l i.0 t.2) at q)) [
          | inl here ↦ rw append-nil at here
          | inr (inl k) ↦ end_blank done used p l e f i.0 k.0 le end k.1
          | inr (inr k) ↦ end_rule done used p l k.0 e f i.0 t.2 fits k.1 k.2 end k.3
        ])
  ]
