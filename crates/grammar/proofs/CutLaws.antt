-- A refused text cut round what is named, and the first byte and field of a line.
use Rattle.std.proofs.Common.{◌≡◌, ◌≢◌, ℕ, zero, suc, ◌+◌, ◌-◌, ◌<◌, ◌≤◌, true, false, cond, leb, List, [], ◌∷◌, ◌++◌, length, get_or, Ok, Err, codes, Result, refl, sym, ap, ◌∙◌, inl, inr, arith, ◌⊎◌, IsErr, IsOk, append-nil, append_assoc, length-append}
use Rattle.std.specs.List.{AllByRecursion}
use Rattle.std.proofs.lemmas.Bool.{cases_Bool, lt-leb}
use Rattle.std.proofs.lemmas.Bool.Decides.{nat_tests}
use Rattle.parts.specs.declared.fault.Fault.{Fault}
use Rattle.parts.specs.declared.limits.TheConstants.{MOST_PARTS, MOST_TEXT_MARKS, MOST_TEXT_RULES}
use Rattle.parts.specs.declared.refusal.Refusal.TheVariants.{MalformedRule, RuleCount}
use Rattle.text.specs.Pieces.{Piece, lines, fields}
use Rattle.text.specs.Layout.{Blank, Inline, Field, EndsField, EndsWord, EndsLine, StartsField, StartsLine, Fields, Lines}
use Rattle.text.proofs.Each.{each_append, each_weaker}
use Rattle.text.proofs.LineLaws.{bytes_of, lines_feed, lines_last}
use Rattle.text.proofs.FieldLaws.{fields_none, fields_of}
use Rattle.text.proofs.Cuts.{InLine, OneLine, one_line, first_line, fields_word, fields_some, SomeField, starts_blank, each_front}
use Rattle.book.specs.Meaning.{Rule}
use Rattle.book.specs.Tables.{marks_limit}
use Rattle.grammar.specs.declared.RuleStart.{RuleStart}
use Rattle.grammar.specs.declared.Room.{Room}
use Rattle.grammar.specs.Law.{Named, may_name, IsNamed, MayFollow, MayReplace}
use Rattle.grammar.specs.Law.Named.{excess, field, line, line_end, text_end}
use Rattle.grammar.specs.Reading.{counted, counted_fields, rule_of, rules_of, fault_at, with_rule, rule_start}
use Rattle.grammar.proofs.RuleLines.{Kept, rule_from, rule_to, rules_rule, rules_skip, read_line, read_rule}
use Rattle.grammar.proofs.RuleFaults.{piece, full_room, NoRule, SomeRule, NoEnd, RuleFault, rule_fault, zero_ends}

-- A text at p that is refused, cut round what is named: what holds of each text that goes on from it,
-- and of one that goes on from what stands before it.
pub record Cut (p : ℕ) (text : List ℕ) (f : Fault) (Refused Passes : List ℕ → Type 0) : Type 0 where
  pub before : List ℕ
  pub bytes : List ℕ
  pub after : List ℕ
  pub is_text : text ≡ before ++ (bytes ++ after)
  pub byte_is : f.byte ≡ p + length before
  pub named : Named
  pub no_excess : named ≢ excess
  pub allowed : may_name f.refusal named ≡ true
  pub is_named : IsNamed named before bytes
  pub ends_there : MayFollow named after
  pub refused : (rest : List ℕ) → MayFollow named rest → Refused (before ++ (bytes ++ rest))
  pub rest : List ℕ
  pub replaces : MayReplace named rest
  pub passed : Passes (before ++ rest)

-- where a field, or a line, starts, one starts after one line more
pub field_after_line : (l before : List ℕ) → StartsField before → StartsField (l ++ 10 ∷ before)
field_after_line l before (inl e) = inr (l, 10, rw e refl, inr refl)
field_after_line l before (inr k) = inr (l ++ 10 ∷ k.0, k.1, rw k.2 (sym (append_assoc l (10 ∷ k.0) (k.1 ∷ []))), k.3)

pub line_after_line : (l before : List ℕ) → StartsLine before → StartsLine (l ++ 10 ∷ before)
line_after_line l before (inl e) = inr (l, rw e refl)
line_after_line l before (inr k) = inr (l ++ 10 ∷ k.0, rw k.1 (sym (append_assoc l (10 ∷ k.0) (10 ∷ []))))

pub named_after : (k : Named) (l before bytes : List ℕ) → k ≢ excess → IsNamed k before bytes → IsNamed k (l ++ 10 ∷ before) bytes
named_after excess l before bytes n h = absurd (n refl)
named_after field l before bytes n h = (field_after_line l before h.0, h.1)
named_after line l before bytes n h = (line_after_line l before h.0, h.1)
named_after line_end l before bytes n h = h
named_after text_end l before bytes n h = h

-- a cut after one line more
pub cut_after : {R R' P P' : List ℕ → Type 0} (p : ℕ) (l g : List ℕ) (f : Fault) → ((t : List ℕ) → R' t → R (l ++ 10 ∷ t)) → ((t : List ℕ) → P' t → P (l ++ 10 ∷ t)) → Cut (p + length l + 1) g f R' P' → Cut p (l ++ 10 ∷ g) f R P
cut_after {R} {R'} {P} {P'} p l g f r s x =
    let three : (y : List ℕ) → (l ++ 10 ∷ x.before) ++ y ≡ l ++ 10 ∷ (x.before ++ y) = λ y. append_assoc l (10 ∷ x.before) y in
    record {
      before = l ++ 10 ∷ x.before;
      bytes = x.bytes;
      after = x.after;
      is_text = ap (λ t. l ++ 10 ∷ t) x.is_text ∙ sym (three (x.bytes ++ x.after));
      byte_is = omega (arith, x.byte_is, length-append l (10 ∷ x.before));
      named = x.named;
      no_excess = x.no_excess;
      allowed = x.allowed;
      is_named = named_after x.named l x.before x.bytes x.no_excess x.is_named;
      ends_there = x.ends_there;
      refused = λ rest k. rw (three (x.bytes ++ rest)) (r (x.before ++ (x.bytes ++ rest)) (x.refused rest k));
      rest = x.rest;
      replaces = x.replaces;
      passed = rw (three x.rest) (s (x.before ++ x.rest) x.passed);
    }

-- The first byte of a line.
pub first_same : (before bytes y z : List ℕ) → bytes ≢ [] → get_or (before ++ (bytes ++ y)) 0 0 ≡ get_or (before ++ (bytes ++ z)) 0 0
first_same [] [] y z n = absurd (n refl)
first_same [] (b ∷ bytes) y z n = refl
first_same (b ∷ before) bytes y z n = refl

pub first_byte : (l y : List ℕ) → l ≢ [] → get_or l 0 0 ≢ 99 → get_or (l ++ y) 0 0 ≢ 99
first_byte [] y some h = absurd (some refl)
first_byte (b ∷ l) y some h = h

pub first_rest : (before rest y : List ℕ) → get_or rest 0 0 ≢ 99 → get_or (before ++ y) 0 0 ≢ 99 → get_or (before ++ rest) 0 0 ≢ 99
first_rest [] rest y h k = h
first_rest (b ∷ before) rest y h k = k

-- a line counts as its fields where it does not begin with c
pub plain_counted : (p : ℕ) (t : List ℕ) → get_or t 0 0 ≢ 99 → counted_fields p t ≡ fields p t
plain_counted p [] h = refl
plain_counted p (b ∷ bs) h = grind (arith, nat_tests)

-- and that counts does not
pub counted_plain : (p : ℕ) (t : List ℕ) (f : Piece) (fs : List Piece) → counted_fields p t ≡ f ∷ fs → get_or t 0 0 ≢ 99
counted_plain p [] f fs e = cc
counted_plain p (b ∷ bs) f fs e = λ k. grind (arith, nat_tests)

pub ends_word : (a tail : List ℕ) → EndsField a → EndsLine tail → EndsWord (a ++ tail)
ends_word [] [] h k = tt
ends_word [] (b ∷ tail) h k = inr k
ends_word (b ∷ a) tail h k = inl h

-- a field of a line of a text
pub in_cut : {N S R P : List ℕ → Type 0} (p : ℕ) (l tail zs : List ℕ) (f : Fault) → AllByRecursion Inline l → get_or l 0 0 ≢ 99 → EndsLine tail
    → ((t more : List ℕ) → AllByRecursion Inline t → get_or t 0 0 ≢ 99 → EndsLine more → SomeField (fields p t) → N t → R (t ++ more))
    → ((t : List ℕ) → AllByRecursion Inline t → get_or t 0 0 ≢ 99 → S t → P (t ++ zs))
    → InLine p l f.byte N S → may_name f.refusal field ≡ true → Cut p (l ++ tail) f R P
in_cut {N} {S} {R} {P} p l tail zs f inline plain ends r s x may =
    let here : AllByRecursion Inline (x.before ++ (x.bytes ++ x.after)) = rw x.is_line at inline in
    let front : AllByRecursion Inline x.before = each_front Inline x.before _ here in
    let word : AllByRecursion Inline x.bytes = each_weaker _ Inline (λ b k. k.1) x.bytes x.field.1 in
    let four : (y z : List ℕ) → x.before ++ (x.bytes ++ (y ++ z)) ≡ (x.before ++ (x.bytes ++ y)) ++ z = λ y z. simp append_assoc in
    record {
      before = x.before;
      bytes = x.bytes;
      after = x.after ++ tail;
      is_text = ap (λ t. t ++ tail) x.is_line ∙ sym (four x.after tail);
      byte_is = x.byte_is;
      named = field;
      no_excess = λ e. cc;
      allowed = may;
      is_named = (x.starts, x.field);
      ends_there = ends_word x.after tail x.ends ends;
      refused = λ rest k.
          let o = one_line rest in
          let t = x.before ++ (x.bytes ++ o.line) in
          rw (o.is, four o.line o.tail)
          (r t o.tail (each_append Inline x.before _ front (each_append Inline x.bytes _ word o.inline)) (λ q. plain (ap (λ t. get_or t 0 0) x.is_line ∙ (first_same x.before x.bytes x.after o.line x.field.0 ∙ q))) o.ends
          (fields_some p x.before x.bytes o.line x.field) (x.stops o.line (o.word k)));
      rest = x.rest ++ zs;
      replaces = tt;
      passed =
          rw (sym (append_assoc x.before x.rest zs))
          (s (x.before ++ x.rest) (each_append Inline x.before x.rest front x.inline) (first_rest x.before x.rest (x.bytes ++ x.after) x.plain (λ q. plain (ap (λ t. get_or t 0 0) x.is_line ∙ q))) x.passes);
    }

-- a line feed and a 0 for each of so many rules
abbrev pub zeros : ℕ → List ℕ
zeros zero = []
zeros (suc k) = 10 ∷ 48 ∷ zeros k

pub zeros_end : (k : ℕ) → EndsLine (zeros k)
zeros_end zero = tt
zeros_end (suc k) = refl

pub zeros_word : (k : ℕ) → EndsWord (zeros k)
zeros_word zero = tt
zeros_word (suc k) = inr refl

pub with_ok : (r : Rule) (x : Result (List Rule) Fault) → IsOk x → IsOk (with_rule r x)
with_ok r (Ok rs) h = refl
with_ok r (Err e) h = h

pub with_err : (r : Rule) (x : Result (List Rule) Fault) → IsErr x → IsErr (with_rule r x)
with_err r (Ok rs) h = h
with_err r (Err e) h = refl

pub err_of : (r : Rule) (x : Result (List Rule) Fault) (f : Fault) → with_rule r x ≡ Err f → x ≡ Err f
err_of r x f e = grind arith

pub is_err : {A : Type 0} (x : Result A Fault) (f : Fault) → x ≡ Err f → IsErr x
is_err x f e = rw e refl

-- a line with a field has a byte
pub some_byte : (p : ℕ) (t : List ℕ) → SomeField (fields p t) → t ≢ []
some_byte p [] (f, fs, q) = λ e. cc
some_byte p (b ∷ bs) s = λ e. cc

-- a line's first field stands behind its blanks
pub field_place : (p : ℕ) (l : List ℕ) (x : Piece) (fs : List Piece) (b r : List ℕ) → fields p l ≡ x ∷ fs → l ≡ b ++ (x.bytes ++ r) → AllByRecursion Blank b → Field x.bytes → EndsField r → x.at ≡ p + length b
field_place p l x fs b r has is blank word ends =
    let first : record { at = p + length b; bytes = x.bytes } ∷ fields (p + length b + length x.bytes) r ≡ x ∷ fs = sym (fields_word p b x.bytes r blank word ends) ∙ (ap (fields p) (sym is) ∙ has) in
    cc
