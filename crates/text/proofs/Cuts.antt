-- A text cut behind its first line, and a line cut round a field.
use Rattle.std.proofs.Common.{◌≡◌, ◌≢◌, ℕ, ◌+◌, true, List, [], ◌∷◌, ◌++◌, length, get_or, refl, ap, ◌∙◌, sym, inl, inr, arith, append_assoc, length-append}
use Rattle.std.specs.List.{AllByRecursion}
use Rattle.std.proofs.lemmas.Bool.{cases_eq, cond_both}
use Rattle.std.proofs.lemmas.List.{append-nil}
use Rattle.std.proofs.lemmas.Bool.Decides.{nat_tests}
use Rattle.text.specs.Pieces.{Piece, grown, blank, goes_on, lines, fields}
use Rattle.text.specs.Layout.{Blank, Inline, Field, EndsField, EndsWord, EndsLine, StartsField, StartsLine}
use Rattle.text.proofs.LineLaws.{lines_feed, lines_last}
use Rattle.text.proofs.FieldLaws.{fields_blank, fields_field}

-- what holds of each element holds of those in front
pub each_front : {X : Type 0} (P : X → Type 0) (xs ys : List X) → AllByRecursion P (xs ++ ys) → AllByRecursion P xs
each_front P [] ys h = tt
each_front P (x ∷ xs) ys h = (h.0, each_front P xs ys h.1)

-- the rest of a text up to its line's end, and from there on
pub record OneLine (rest : List ℕ) : Type 0 where
  pub line : List ℕ
  pub tail : List ℕ
  pub is : rest ≡ line ++ tail
  pub inline : AllByRecursion Inline line
  pub ends : EndsLine tail
  pub word : EndsWord rest → EndsField line

pub one_line : (rest : List ℕ) → OneLine rest
one_line [] = record { line = []; tail = []; is = refl; inline = tt; ends = tt; word = λ _. tt }
one_line (b ∷ bs) = elim (cases_eq b 10) [
  | inl e ↦ record { line = []; tail = b ∷ bs; is = refl; inline = tt; ends = e; word = λ _. tt }
  | inr e ↦
      let r = one_line bs in
      record {
        line = b ∷ r.line;
        tail = r.tail;
        is = ap (λ x. b ∷ x) r.is;
        inline = (e, r.inline);
        ends = r.ends;
        word = λ w. elim w [ inl k ↦ k | inr k ↦ absurd (e k) ];
      }
]

-- a line is the first of a text that goes on where a line ends
pub first_line : (p : ℕ) (t tail : List ℕ) → AllByRecursion Inline t → EndsLine tail → t ≢ [] → (more : List Piece) × (lines p (t ++ tail) ≡ record { at = p; bytes = t } ∷ more)
first_line p t [] i e s = ([], rw (append-nil t) (lines_last p t i s))
first_line p t (b ∷ tail) i e s = (lines (p + length t + 1) tail, rw e (lines_feed p t tail i))

-- blanks and a field come first
pub fields_word : (p : ℕ) (b w rest : List ℕ) → AllByRecursion Blank b → Field w → EndsField rest → fields p (b ++ (w ++ rest)) ≡ record { at = p + length b; bytes = w } ∷ fields (p + length b + length w) rest
fields_word p b w rest blank field ends = fields_blank p b (w ++ rest) blank ∙ fields_field (p + length b) w rest field ends

-- a line with a field has one
abbrev pub SomeField : List Piece → Type 0
SomeField ps = (f : Piece) × (fs : List Piece) × (ps ≡ f ∷ fs)

grown_some : (c p : ℕ) (ps : List Piece) → SomeField (grown c p ps)
grown_some c p [] = (_, [], refl)
grown_some c p (q ∷ ps) = (_, ps, refl)

byte_some : (p c : ℕ) (bs : List ℕ) → (blank c ≡ true → SomeField (fields (p + 1) bs)) → SomeField (fields p (c ∷ bs))
byte_some p c bs more =
    cond_both (blank c) _ _ SomeField more
    (λ e. cond_both (goes_on bs) _ _ SomeField (λ k. grown_some c p (fields (p + 1) bs)) (λ k. (_, fields (p + 1) bs, refl)))

pub fields_some : (p : ℕ) (before w rest : List ℕ) → Field w → SomeField (fields p (before ++ (w ++ rest)))
fields_some p [] [] rest h = absurd (h.0 refl)
fields_some p [] (c ∷ w) rest h = byte_some p c (w ++ rest) (λ k. absurd (h.1.0.0 (grind (arith, nat_tests))))
fields_some p (c ∷ before) w rest h = byte_some p c (before ++ (w ++ rest)) (λ k. fields_some (p + 1) before w rest h)

-- a field stands where a field may start, also after more
pub starts_after : (a before : List ℕ) → before ≢ [] → StartsField before → StartsField (a ++ before)
starts_after a before some (inl e) = absurd (some e)
starts_after a before some (inr h) = inr (a ++ h.0, h.1, rw h.2 (sym (append_assoc a h.0 (h.1 ∷ []))), h.3)

pub starts_blank : (b : List ℕ) → AllByRecursion Blank b → StartsField b
starts_blank [] h = inl refl
starts_blank (c ∷ b) h = by (starts_blank b h.1)
  where
    by : StartsField b → StartsField (c ∷ b)
    by (inl e) = inr ([], c, rw e refl, inl h.0)
    by (inr k) = inr (c ∷ k.0, k.1, ap (λ x. c ∷ x) k.2, k.3)

-- A field of a line that starts at `at`: what holds of each line that goes on from it,
-- and of one that goes on from what stands before it.
pub record InLine (at : ℕ) (line : List ℕ) (byte : ℕ) (Stops Passes : List ℕ → Type 0) : Type 0 where
  pub before : List ℕ
  pub bytes : List ℕ
  pub after : List ℕ
  pub is_line : line ≡ before ++ (bytes ++ after)
  pub byte_is : byte ≡ at + length before
  pub starts : StartsField before
  pub field : Field bytes
  pub ends : EndsField after
  pub stops : (rest : List ℕ) → EndsField rest → Stops (before ++ (bytes ++ rest))
  pub rest : List ℕ
  pub inline : AllByRecursion Inline rest
  pub plain : get_or rest 0 0 ≢ 99
  pub passes : Passes (before ++ rest)

-- such a field after one more
module _ {R R' P P' : List ℕ → Type 0} (at : ℕ) (b w line : List ℕ) (byte : ℕ) (ends : EndsField line) (r : (t : List ℕ) → EndsField t → R' t → R (b ++ (w ++ t))) (p : (t : List ℕ) → EndsField t → P' t → P (b ++ (w ++ t))) where
  pub after_word : InLine (at + length b + length w) line byte R' P' → InLine at (b ++ (w ++ line)) byte R P
  after_word x = by x.before refl
    where
      three : (x y : List ℕ) → (b ++ (w ++ x)) ++ y ≡ b ++ (w ++ (x ++ y))
      three x y = simp append_assoc

      by : (before : List ℕ) → x.before ≡ before → InLine at (b ++ (w ++ line)) byte R P
      by [] e = absurd (none x.bytes x.field (rw e at x.is_line))
        where
          none : (bytes : List ℕ) → Field bytes → line ≡ bytes ++ x.after → ⊥
          none [] f q = f.0 refl
          none (c ∷ bytes) f q = f.1.0.0 (rw q at ends)
      by (c ∷ before) e =
          let k : Blank c = rw (x.is_line, e) at ends in
          let begins : (t : List ℕ) → EndsField (x.before ++ t) = λ t. rw e k in
          record {
            before = b ++ (w ++ x.before);
            bytes = x.bytes;
            after = x.after;
            is_line = ap (λ t. b ++ (w ++ t)) x.is_line ∙ sym (three x.before (x.bytes ++ x.after));
            byte_is = omega (arith, x.byte_is, length-append b (w ++ x.before), length-append w x.before);
            starts = starts_after b (w ++ x.before) (λ q. omega (arith, ap length q, ap length e, length-append w x.before)) (starts_after w x.before (λ q. omega (arith, ap length q, ap length e)) x.starts);
            field = x.field;
            ends = x.ends;
            stops = λ rest h. rw (three x.before (x.bytes ++ rest)) (r (x.before ++ (x.bytes ++ rest)) (begins (x.bytes ++ rest)) (x.stops rest h));
            rest = x.rest;
            inline = x.inline;
            plain = x.plain;
            passes = rw (three x.before x.rest) (p (x.before ++ x.rest) (begins x.rest) x.passes);
          }
