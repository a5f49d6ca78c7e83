-- The fault of a rule's line: what follows it does not change it, and up to there a rule passes.
use Rattle.std.proofs.Common.{◌≡◌, ◌≢◌, ℕ, ◌+◌, ◌≤◌, true, false, eqb, List, [], ◌∷◌, ◌++◌, length, ℤ, pos, nat_abs, Some, Ok, Err, codes, Option, Result, refl, sym, ap, ◌∙◌, inl, inr, arith, ◌⊎◌, IsErr, append-nil, append_assoc, length-append}
use Rattle.std.specs.List.{AllByRecursion}
use Rattle.std.proofs.lemmas.Bool.{cases_eq, ne_eqb}
use Rattle.std.proofs.lemmas.List.Folds.{list_any-append}
use Rattle.std.proofs.lemmas.Bool.Decides.{nat_tests}
use Rattle.std.proofs.lemmas.Grind.{common_steps}
use Rattle.parts.specs.declared.fault.Fault.{Fault}
use Rattle.parts.specs.declared.limits.TheConstants.{MOST_TEXT_MARKS, MOST_TEXT_RULES}
use Rattle.parts.specs.declared.refusal.Refusal.TheVariants.{MalformedRule}
use Rattle.parts.specs.Distinct.{names}
use Rattle.parts.specs.Marks.{mark_from}
use Rattle.text.specs.Numbers.{signed}
use Rattle.text.specs.Pieces.{Piece, fields}
use Rattle.text.specs.Layout.{Blank, Inline, Field, EndsField, Fields}
use Rattle.text.proofs.Each.{each_append}
use Rattle.text.proofs.FieldLaws.{fields_none}
use Rattle.text.proofs.NumberLaws.{decimal_zero}
use Rattle.text.proofs.Cuts.{InLine, after_word, fields_word, starts_blank}
use Rattle.book.specs.Meaning.{Rule}
use Rattle.book.specs.Tables.{marks_limit}
use Rattle.grammar.specs.declared.RuleStart.{RuleStart}
use Rattle.grammar.specs.declared.Room.{Room}
use Rattle.grammar.specs.Law.{may_name}
use Rattle.grammar.specs.Law.Named.{field}
use Rattle.grammar.specs.Reading.{number_or_fault, ended_rule, rule_of, fault_at}
use Rattle.grammar.proofs.Marks.{signed_mark, part_from, Taken, field_taken, taken_field}
use Rattle.grammar.proofs.RuleLines.{next, rule_step}

-- the tables that take any book
abbrev pub full_room : ℕ → Room
full_room n = record { n = n; marks = MOST_TEXT_MARKS; ends = MOST_TEXT_RULES }

zero_field : Field (codes "0")
zero_field = (λ e. cc, ((λ k. grind arith, λ k. omega arith), tt))

-- a field that is refused is one that its refusal may name
number_fault : (room : Room) (start : RuleStart) (seen : Rule) (at : ℕ) (o : Option ℤ) (f : Fault) → number_or_fault room start seen at o ≡ Err f → (f.byte ≡ at) × (may_name f.refusal field ≡ true)
number_fault room start seen at o f e = grind arith

field_refused : (room : Room) (start : RuleStart) (seen : Rule) (f : Piece) (fs : List Piece) (x : Fault) → number_or_fault room start seen f.at (signed f.bytes) ≡ Err x → rule_of room start seen (f ∷ fs) ≡ Err x
field_refused room start seen f fs x e = grind arith

abbrev pub piece : ℕ → List ℕ → Piece
piece p w = record { at = p; bytes = w }

-- one more mark is no part 0
no_zero : (seen : Rule) (z : ℤ) → names seen 0 ≡ false → (nat_abs z ≡ 0 → ⊥) → names (seen ++ mark_from z ∷ []) 0 ≡ false
no_zero seen z h n = grind (arith, nat_tests, common_steps, list_any-append (λ x. eqb x.part 0) seen (mark_from z ∷ []), part_from z)

-- a field ends before what follows a line's fields
ends_both : (line rest : List ℕ) → EndsField line → EndsField rest → EndsField (line ++ rest)
ends_both [] rest h k = k
ends_both (b ∷ line) rest h k = h

module _ (n m_entries e_entries rule used : ℕ) (low : rule ≤ MOST_TEXT_RULES) where
  abbrev room : Room
  room = record { n = n; marks = m_entries; ends = e_entries }

  abbrev start : ℕ → RuleStart
  start e = record { rule = rule; used = used; end = e }

  -- no rule is read from a line, and a rule is read, wherever the line ends
  abbrev pub NoRule : Rule → ℕ → List ℕ → Type 0
  NoRule seen at t = (e : ℕ) → IsErr (rule_of room (start e) seen (fields at t))

  abbrev pub SomeRule : Rule → ℕ → List ℕ → Type 0
  SomeRule seen at t = (e : ℕ) → (r : Rule) × (rule_of (full_room n) (start e) seen (fields at t) ≡ Ok r)

  taken_full : (seen : Rule) (e : ℕ) (z : ℤ) → Taken room (start e) seen z → (d : ℕ) → Taken (full_room n) (start d) seen z
  taken_full seen e z t d = record { within = t.within; fresh = t.fresh; line = λ _. low; fits = λ k. omega (arith, t.fits k) }

  -- a 0 ends the rule
  pub zero_ends : (seen : Rule) (at : ℕ) (b : List ℕ) → AllByRecursion Blank b → names seen 0 ≡ false → SomeRule seen at (b ++ codes "0")
  zero_ends seen at b blank none e =
      let t : Taken (full_room n) (start e) seen (pos 0) = record { within = omega arith; fresh = none; line = λ _. low; fits = λ k. absurd (k refl) } in
      (seen, ap (rule_of (full_room n) (start e) seen) (fields_word at b (codes "0") [] blank zero_field tt) ∙ rule_step (full_room n) (start e) seen (piece (at + length b) (codes "0")) [] (pos 0) refl t)

  -- the fault of a line that lacks its 0
  pub record NoEnd (seen : Rule) (at : ℕ) (line : List ℕ) (e : ℕ) (f : Fault) : Type 0 where
    pub is : f ≡ fault_at MalformedRule e rule
    pub rest : List ℕ
    pub ends : EndsField rest
    pub inline : AllByRecursion Inline rest
    pub passes : SomeRule seen at (line ++ rest)

  -- the fault of a rule after the marks `seen`, at a field or at the line's end
  abbrev pub RuleFault : Rule → ℕ → List ℕ → ℕ → Fault → Type 0
  RuleFault seen at line e f = (InLine at line f.byte (NoRule seen at) (SomeRule seen at) × (may_name f.refusal field ≡ true)) ⊎ NoEnd seen at line e f

  module _ (at : ℕ) (b w line : List ℕ) (blank : AllByRecursion Blank b) (field : Field w) (ends : EndsField line) (seen : Rule) (f : Fault) where
    abbrev next_at : ℕ
    next_at = at + length b + length w

    first : (t : List ℕ) → EndsField t → fields at (b ++ (w ++ t)) ≡ record { at = at + length b; bytes = w } ∷ fields next_at t
    first t k = fields_word at b w t blank field k

    -- a field that is refused
    refused : (e : ℕ) → names seen 0 ≡ false → number_or_fault room (start e) seen (at + length b) (signed w) ≡ Err f → RuleFault seen at (b ++ (w ++ line)) e f
    refused e none q =
        let (byte, may) = number_fault room (start e) seen (at + length b) (signed w) f q in
        inl (
          record {
            before = b;
            bytes = w;
            after = line;
            is_line = refl;
            byte_is = byte;
            starts = starts_blank b blank;
            field = field;
            ends = ends;
            stops = λ rest k d. rw (first rest k, field_refused room (start d) seen (piece (at + length b) w) (fields next_at rest) f q) refl;
            rest = codes "0";
            inline = (λ k. omega arith, tt);
            plain = λ k. omega arith;
            passes = zero_ends seen at b blank none;
          },
          may,
        )

    module _ (z : ℤ) (worth : signed w ≡ Some z) (e : ℕ) (taken : Taken room (start e) seen z) where
      step : (t : List ℕ) → EndsField t → (d : ℕ) → rule_of room (start d) seen (fields at (b ++ (w ++ t))) ≡ next room (start d) seen (fields next_at t) z
      step t k d =
          let same : Taken room (start d) seen z = record { within = taken.within; fresh = taken.fresh; line = taken.line; fits = taken.fits } in
          ap (rule_of room (start d) seen) (first t k) ∙ rule_step room (start d) seen (piece (at + length b) w) (fields next_at t) z worth same

      step_full : (t : List ℕ) → EndsField t → (d : ℕ) → rule_of (full_room n) (start d) seen (fields at (b ++ (w ++ t))) ≡ next (full_room n) (start d) seen (fields next_at t) z
      step_full t k d = ap (rule_of (full_room n) (start d) seen) (first t k) ∙ rule_step (full_room n) (start d) seen (piece (at + length b) w) (fields next_at t) z worth (taken_full seen e z taken d)

      module _ (zero : nat_abs z ≡ 0) where
        abbrev NoneAfter : List ℕ → Type 0
        NoneAfter t = (d : ℕ) → IsErr (ended_rule (start d) seen (fields next_at t))

        abbrev EndsHere : List ℕ → Type 0
        EndsHere t = (d : ℕ) → ended_rule (start d) seen (fields next_at t) ≡ Ok seen

        -- a field after the rule's 0
        after_zero : (ws : List (List ℕ)) → Fields ws line → ended_rule (start e) seen (fields next_at line) ≡ Err f → RuleFault seen at (b ++ (w ++ line)) e f
        after_zero [] h q = let none = fields_none next_at line h in absurd (grind arith)
        after_zero (w₂ ∷ ws) h q =
            let b₂ = h.0 in
            let is : (t : List ℕ) → EndsField t → fields next_at (b₂ ++ (w₂ ++ t)) ≡ record { at = next_at + length b₂; bytes = w₂ } ∷ fields (next_at + length b₂ + length w₂) t = λ t k. fields_word next_at b₂ w₂ t h.3 h.4 k in
            let none : fields next_at (b₂ ++ []) ≡ [] = fields_none next_at (b₂ ++ []) (each_append Blank b₂ [] h.3 tt) in
            let fault : f ≡ fault_at MalformedRule (next_at + length b₂) rule = grind (arith, is h.1 h.5, h.2) in
            inl (
              after_word {R' = NoneAfter} {P' = EndsHere} at b w line f.byte ends
                  (λ t k x d. rw (step t k d, zero) (x d))
                  (λ t k x d. (seen, step_full t k d ∙ rw zero (x d)))
                  (record {
                    before = b₂;
                    bytes = w₂;
                    after = h.1;
                    is_line = h.2;
                    byte_is = ap (λ x. x.byte) fault;
                    starts = starts_blank b₂ h.3;
                    field = h.4;
                    ends = h.5;
                    stops = λ rest k d. rw (is rest k) refl;
                    rest = [];
                    inline = tt;
                    plain = λ k. omega arith;
                    passes = λ d. rw none refl;
                  }),
              rw fault refl,
            )

      -- a fault in what follows a mark
      after_mark : (nat_abs z ≡ 0 → ⊥) → RuleFault (seen ++ mark_from z ∷ []) next_at line e f → RuleFault seen at (b ++ (w ++ line)) e f
      after_mark more (inl x) =
          inl (
            after_word at b w line f.byte ends
                (λ t k y d. rw (step t k d, ne_eqb (nat_abs z) 0 more) (y d))
                (λ t k y d. ((y d).0, step_full t k d ∙ rw (ne_eqb (nat_abs z) 0 more) ((y d).1)))
                x.0,
            x.1,
          )
      after_mark more (inr x) =
          inr (record {
            is = x.is;
            rest = x.rest;
            ends = x.ends;
            inline = x.inline;
            passes = λ d.
                let y = x.passes d in
                let all : (b ++ (w ++ line)) ++ x.rest ≡ b ++ (w ++ (line ++ x.rest)) = simp append_assoc in
                rw all (y.0, step_full (line ++ x.rest) (ends_both line x.rest ends x.ends) d ∙ rw (ne_eqb (nat_abs z) 0 more) (y.1));
          })

      -- what follows the field
      goes_on : (ws : List (List ℕ)) → Fields ws line → next room (start e) seen (fields next_at line) z ≡ Err f → ((nat_abs z ≡ 0 → ⊥) → rule_of room (start e) (seen ++ mark_from z ∷ []) (fields next_at line) ≡ Err f → RuleFault (seen ++ mark_from z ∷ []) next_at line e f)
          → RuleFault seen at (b ++ (w ++ line)) e f
      goes_on ws h q rec = elim (cases_eq (nat_abs z) 0) [
        | inl zero ↦ after_zero zero ws h (rw zero at q)
        | inr more ↦ after_mark more (rec more (rw (ne_eqb (nat_abs z) 0 more) at q))
      ]

  pub rule_fault : (ws : List (List ℕ)) (seen : Rule) (at : ℕ) (line : List ℕ) (e : ℕ) (f : Fault) → Fields ws line → names seen 0 ≡ false
      → rule_of room (start e) seen (fields at line) ≡ Err f → RuleFault seen at line e f
  rule_fault [] seen at line e f h none q =
      let empty = fields_none at line h in
      inr (record {
        is = grind arith;
        rest = 32 ∷ 48 ∷ [];
        ends = inl refl;
        inline = (λ k. omega arith, (λ k. omega arith, tt));
        passes = λ d.
            let all : line ++ 32 ∷ 48 ∷ [] ≡ (line ++ 32 ∷ []) ++ codes "0" = simp append_assoc in
            rw all (zero_ends seen at (line ++ 32 ∷ []) (each_append Blank line (32 ∷ []) h (inl refl, tt)) none d);
      })
  rule_fault (w ∷ ws) seen at line e f h none q =
      let b = h.0 in
      let r = h.1 in
      let p = at + length b + length w in
      rw h.2 (by (number_or_fault room (start e) seen (at + length b) (signed w)) refl (rw (h.2, fields_word at b w r h.3 h.4 h.5) at q) (λ s. rule_fault ws s p r e f h.6))
    where
      by : (x : Result ℤ Fault) → number_or_fault room (start e) seen (at + length h.0) (signed w) ≡ x → rule_of room (start e) seen (record { at = at + length h.0; bytes = w } ∷ fields (at + length h.0 + length w) h.1) ≡ Err f
          → ((s : Rule) → names s 0 ≡ false → rule_of room (start e) s (fields (at + length h.0 + length w) h.1) ≡ Err f → RuleFault s (at + length h.0 + length w) h.1 e f) → RuleFault seen at (h.0 ++ (w ++ h.1)) e f
      by (Err x) is q rec = refused at h.0 w h.1 h.3 h.4 h.5 seen f e none (grind arith)
      by (Ok z) is q rec =
          let t = taken_field room (start e) seen _ _ z is in
          goes_on at h.0 w h.1 h.3 h.4 h.5 seen f z t.0 e t.1 ws h.6 (sym (rule_step room (start e) seen (piece (at + length h.0) w) (fields (at + length h.0 + length w) h.1) z t.0 t.1) ∙ q) (λ more. rec (seen ++ mark_from z ∷ []) (no_zero seen z none more))
