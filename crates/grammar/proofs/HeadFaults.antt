-- The faults of a head: which there are, and that a size out of range stays so.
use Rattle.std.proofs.Common.{◌≡◌, ◌≢◌, ℕ, eqb, leb, ltb, ◌||◌, Bool, true, None, Option, ◌+◌, ◌-◌, ◌<◌, ◌≤◌, List, [], ◌∷◌, ◌++◌, length, take, drop, get_or, Some, Ok, Err, codes, Result, refl, sym, ap, ◌∙◌, inl, inr, arith, ◌⊎◌, IsErr, IsOk, append-nil, append_assoc, length-append, length-drop}
use Rattle.std.specs.List.{AllByRecursion}
use Rattle.std.specs.Str.{bytes_eq}
use Rattle.std.proofs.lemmas.List.{length-take-le, take-append-drop}
use Rattle.std.proofs.lemmas.Bool.{cases_Bool}
use Rattle.std.proofs.lemmas.Bool.Decides.{nat_tests}
use Rattle.std.proofs.lemmas.Slice.Eq.{bytes_eq-Decides}
use Rattle.parts.specs.declared.fault.Fault.{Fault}
use Rattle.parts.specs.declared.limits.TheConstants.{MOST_PARTS, MOST_TEXT_BYTES, MOST_TEXT_MARKS, MOST_TEXT_RULES}
use Rattle.parts.specs.declared.refusal.Refusal.TheVariants.{TextTooLong, NoHead, SizeOutOfRange, RuleCount}
use Rattle.text.specs.Numbers.{number}
use Rattle.text.specs.Pieces.{Piece, lines, fields}
use Rattle.text.specs.Layout.{Blank, Inline, Field, EndsField, EndsLine, Fields, Lines}
use Rattle.text.proofs.Each.{each_append}
use Rattle.text.proofs.LineLaws.{bytes_of, lines_feed, lines_last, lines_of}
use Rattle.text.proofs.FieldLaws.{fields_blank, fields_of}
use Rattle.text.proofs.Cuts.{InLine, after_word, first_line, fields_word, SomeField, starts_blank}
use Rattle.book.specs.Meaning.{RuleBook, Rule}
use Rattle.grammar.specs.declared.Size.{Size}
use Rattle.grammar.specs.Law.{FaultIsFirst, RefusingIsFirst, may_name}
use Rattle.grammar.specs.Law.Named.{excess, field, line, text_end}
use Rattle.grammar.specs.Reading.{counted, counted_fields, fault_at, size_of, head_of, rules_of, book_of, from_head, lines_read, read_of}
use Rattle.grammar.proofs.Accepted.{from_size, room_of, Heads, head_to}
use Rattle.grammar.proofs.RuleFaults.{piece, full_room}
use Rattle.grammar.proofs.CutLaws.{Cut, cut_after, in_cut, plain_counted, counted_plain, some_byte, is_err, zeros}
use Rattle.grammar.proofs.RestFaults.{zeros_pass, rest_fault}

-- the first two fields are those of a head, and the third is a number
pub record Begun (a b c : Piece) (n : ℕ) : Type 0 where
  pub is_p : a.bytes ≡ codes "p"
  pub is_cnf : b.bytes ≡ codes "cnf"
  pub is_n : number c.bytes ≡ Some n

-- a head that is no head, or at whose third or fourth field a size is out of range
abbrev pub HeadFault : ℕ → List Piece → Fault → Type 0
HeadFault from fs f =
    (f ≡ fault_at NoHead from 0)
    ⊎ ((a : Piece) × (b : Piece) × (c : Piece) × (d : Piece) × (n : ℕ) × (fs ≡ a ∷ b ∷ c ∷ d ∷ []) × Begun a b c n
    × (((f ≡ fault_at SizeOutOfRange c.at 0) × ((n ≡ 0) ⊎ (MOST_PARTS < n)))
    ⊎ ((m : ℕ) × (f ≡ fault_at SizeOutOfRange d.at 0) × (1 ≤ n) × (n ≤ MOST_PARTS) × (number d.bytes ≡ Some m) × (MOST_TEXT_RULES < m))))

pub head_fault : (from : ℕ) (fs : List Piece) (f : Fault) → head_of from fs ≡ Err f → HeadFault from fs f
head_fault from [] f e = inl (grind arith)
head_fault from (a ∷ []) f e = inl (grind arith)
head_fault from (a ∷ b ∷ []) f e = inl (grind arith)
head_fault from (a ∷ b ∷ c ∷ []) f e = inl (grind arith)
head_fault from (a ∷ b ∷ c ∷ d ∷ []) f e = by (bytes_eq a.bytes (codes "p")) (bytes_eq b.bytes (codes "cnf")) (number c.bytes) (number d.bytes) refl refl refl refl
  where
    by : (x y : Bool) (n m : Option ℕ) → bytes_eq a.bytes (codes "p") ≡ x → bytes_eq b.bytes (codes "cnf") ≡ y → number c.bytes ≡ n → number d.bytes ≡ m → HeadFault from (a ∷ b ∷ c ∷ d ∷ []) f
    by x y None m p q u v = inl (grind arith)
    by x y (Some n) None p q u v = inl (grind arith)
    by true true (Some n) (Some m) p q u v =
        let begun : Begun a b c n = record { is_p = grind (arith, bytes_eq-Decides a.bytes (codes "p")); is_cnf = grind (arith, bytes_eq-Decides b.bytes (codes "cnf")); is_n = u } in
        elim (cases_Bool (eqb n 0 || ltb MOST_PARTS n)) [
          | inl out ↦ inr (a, b, c, d, n, refl, begun, inl (grind (arith, nat_tests), grind (arith, nat_tests)))
          | inr fits ↦ inr (a, b, c, d, n, refl, begun, inr (m, grind (arith, nat_tests), grind (arith, nat_tests), grind (arith, nat_tests), v, grind (arith, nat_tests)))
        ]
    by x y (Some n) (Some m) p q u v = inl (grind arith)
head_fault from (a ∷ b ∷ c ∷ d ∷ x ∷ fs) f e = inl (grind arith)

-- a third field that is out of range stays so, whatever follows
pub n_stays : (from : ℕ) (a b c : Piece) (n : ℕ) (fs : List Piece) → Begun a b c n → (n ≡ 0) ⊎ (MOST_PARTS < n) → IsErr (head_of from (a ∷ b ∷ c ∷ fs))
n_stays from a b c n [] h bad = refl
n_stays from a b c n (d ∷ []) h bad = grind (arith, nat_tests)
n_stays from a b c n (d ∷ x ∷ fs) h bad = refl

-- and a fourth
pub m_stays : (from : ℕ) (a b c d : Piece) (n m : ℕ) (fs : List Piece) → Begun a b c n → number d.bytes ≡ Some m → MOST_TEXT_RULES < m → IsErr (head_of from (a ∷ b ∷ c ∷ d ∷ fs))
m_stays from a b c d n m [] h is bad = grind (arith, nat_tests)
m_stays from a b c d n m (x ∷ fs) h is bad = refl

-- and other numbers in their place make a head of no rules
pub n_passes : (from : ℕ) (a b : Piece) (x y : ℕ) → a.bytes ≡ codes "p" → b.bytes ≡ codes "cnf" → head_of from (a ∷ b ∷ piece x (codes "1") ∷ piece y (codes "0") ∷ []) ≡ Ok (record { n = 1; m = 0 })
n_passes from a b x y p cnf = grind (arith, bytes_eq-Decides a.bytes (codes "p"), bytes_eq-Decides b.bytes (codes "cnf"))

pub m_passes : (from : ℕ) (a b c : Piece) (n y : ℕ) → Begun a b c n → 1 ≤ n → n ≤ MOST_PARTS → head_of from (a ∷ b ∷ c ∷ piece y (codes "0") ∷ []) ≡ Ok (record { n = n; m = 0 })
m_passes from a b c n y h some few = grind (arith, nat_tests, bytes_eq-Decides a.bytes (codes "p"), bytes_eq-Decides b.bytes (codes "cnf"))

-- a line's first field and the others, by the line
pub field_first : (p : ℕ) (l : List ℕ) (x : Piece) (fs : List Piece) (b r : List ℕ) → fields p l ≡ x ∷ fs → l ≡ b ++ (x.bytes ++ r) → AllByRecursion Blank b → Field x.bytes → EndsField r
    → (x.at ≡ p + length b) × (fields (p + length b + length x.bytes) r ≡ fs)
field_first p l x fs b r has is blank word ends =
    let first : piece (p + length b) x.bytes ∷ fields (p + length b + length x.bytes) r ≡ x ∷ fs = sym (fields_word p b x.bytes r blank word ends) ∙ (ap (fields p) (sym is) ∙ has) in
    (cc, cc)

-- fields from `at` on, after these, are no head; or one of no rules
abbrev pub NoSize : ℕ → List Piece → ℕ → List ℕ → Type 0
NoSize from pre at t = IsErr (head_of from (pre ++ fields at t))

abbrev pub SomeSize : ℕ → List Piece → ℕ → List ℕ → Type 0
SomeSize from pre at t = (n : ℕ) × (head_of from (pre ++ fields at t) ≡ Ok (record { n = n; m = 0 }))

pub after_field : (from : ℕ) (pre : List Piece) (at : ℕ) (b w left : List ℕ) (byte : ℕ) → AllByRecursion Blank b → Field w → EndsField left
    → let next : ℕ = at + length b + length w in
    InLine next left byte (NoSize from (pre ++ piece (at + length b) w ∷ []) next) (SomeSize from (pre ++ piece (at + length b) w ∷ []) next)
    → InLine at (b ++ (w ++ left)) byte (NoSize from pre at) (SomeSize from pre at)
after_field from pre at b w left byte blank word ends x =
    let next : ℕ = at + length b + length w in
    let more : (t : List ℕ) → EndsField t → (pre ++ piece (at + length b) w ∷ []) ++ fields next t ≡ pre ++ fields at (b ++ (w ++ t)) = λ t k. append_assoc pre (piece (at + length b) w ∷ []) (fields next t) ∙ ap (λ fs. pre ++ fs) (sym (fields_word at b w t blank word k)) in
    after_word at b w left byte ends (λ t k y. rw (more t k) at y) (λ t k y. (y.0, rw (more t k) at (y.1))) x

-- where a size is out of range, its field is named
pub size_fault : (p : ℕ) (l : List ℕ) (f : Fault) (a b c d : Piece) (n : ℕ) → fields p l ≡ a ∷ b ∷ c ∷ d ∷ [] → Fields (a.bytes ∷ b.bytes ∷ c.bytes ∷ d.bytes ∷ []) l → Begun a b c n
    → ((f ≡ fault_at SizeOutOfRange c.at 0) × ((n ≡ 0) ⊎ (MOST_PARTS < n)))
    ⊎ ((m : ℕ) × (f ≡ fault_at SizeOutOfRange d.at 0) × (1 ≤ n) × (n ≤ MOST_PARTS) × (number d.bytes ≡ Some m) × (MOST_TEXT_RULES < m))
    → InLine p l f.byte (NoSize p [] p) (SomeSize p [] p)
size_fault p l f a b c d n has h begun fault =
    let (b₁, l₁, is₁, blank₁, word₁, ends₁, h₁) = h in
    let (b₂, l₂, is₂, blank₂, word₂, ends₂, h₂) = h₁ in
    let (b₃, l₃, is₃, blank₃, word₃, ends₃, h₃) = h₂ in
    let (b₄, l₄, is₄, blank₄, word₄, ends₄, h₄) = h₃ in
    let p₁ : ℕ = p + length b₁ + length a.bytes in
    let p₂ : ℕ = p₁ + length b₂ + length b.bytes in
    let p₃ : ℕ = p₂ + length b₃ + length c.bytes in
    let first = field_first p l a (b ∷ c ∷ d ∷ []) b₁ l₁ has is₁ blank₁ word₁ ends₁ in
    let second = field_first p₁ l₁ b (c ∷ d ∷ []) b₂ l₂ first.1 is₂ blank₂ word₂ ends₂ in
    let third = field_first p₂ l₂ c (d ∷ []) b₃ l₃ second.1 is₃ blank₃ word₃ ends₃ in
    let fourth = field_first p₃ l₃ d [] b₄ l₄ third.1 is₄ blank₄ word₄ ends₄ in
    let x : Piece = piece (p + length b₁) a.bytes in
    let y : Piece = piece (p₁ + length b₂) b.bytes in
    let z : Piece = piece (p₂ + length b₃) c.bytes in
    let begins : Begun x y z n = record { is_p = begun.is_p; is_cnf = begun.is_cnf; is_n = begun.is_n } in
    rw is₁ (after_field p [] p b₁ a.bytes l₁ f.byte blank₁ word₁ ends₁
    (rw is₂ (after_field p (x ∷ []) p₁ b₂ b.bytes l₂ f.byte blank₂ word₂ ends₂
    (elim fault [
      | inl k ↦
          record {
            before = b₃;
            bytes = c.bytes;
            after = l₃;
            is_line = is₃;
            byte_is = ap (λ g. g.byte) k.0 ∙ third.0;
            starts = starts_blank b₃ blank₃;
            field = word₃;
            ends = ends₃;
            stops = λ rest e. rw (fields_word p₂ b₃ c.bytes rest blank₃ word₃ e) (n_stays p x y z n (fields (p₂ + length b₃ + length c.bytes) rest) begins k.1);
            rest = codes "1 0";
            inline = ((λ q. omega arith), ((λ q. omega arith), ((λ q. omega arith), tt)));
            plain = λ q. omega arith;
            passes = (1, rw (fields_blank p₂ b₃ (codes "1 0") blank₃) (n_passes p x y (p₂ + length b₃) (p₂ + length b₃ + 1 + 1) begun.is_p begun.is_cnf));
          }
      | inr k ↦
          rw is₃ (after_field p (x ∷ y ∷ []) p₂ b₃ c.bytes l₃ f.byte blank₃ word₃ ends₃ (record {
            before = b₄;
            bytes = d.bytes;
            after = l₄;
            is_line = is₄;
            byte_is = ap (λ g. g.byte) k.1 ∙ fourth.0;
            starts = starts_blank b₄ blank₄;
            field = word₄;
            ends = ends₄;
            stops = λ rest e. rw (fields_word p₃ b₄ d.bytes rest blank₄ word₄ e) (m_stays p x y z (piece (p₃ + length b₄) d.bytes) n k.0 (fields (p₃ + length b₄ + length d.bytes) rest) begins k.4 k.5);
            rest = codes "0";
            inline = ((λ q. omega arith), tt);
            plain = λ q. omega arith;
            passes = (n, rw (fields_blank p₃ b₄ (codes "0") blank₄) (m_passes p x y z n (p₃ + length b₄) begins k.2 k.3));
          }))
    ]))))
