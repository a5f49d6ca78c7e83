-- The fields of a line are those of the grammar.
use Rattle.std.proofs.Common.{◌≡◌, ℕ, ◌+◌, true, false, List, [], ◌∷◌, ◌++◌, length, refl, ap, arith}
use Rattle.std.specs.List.{AllByRecursion}
use Rattle.std.proofs.lemmas.List.{append-nil}
use Rattle.std.proofs.lemmas.Bool.{cond_both}
use Rattle.std.proofs.lemmas.Bool.Decides.{nat_tests}
use Rattle.text.specs.Pieces.{Piece, grown, blank, goes_on, fields}
use Rattle.text.specs.Layout.{Blank, Inline, Field, EndsField, Fields}
use Rattle.text.proofs.LineLaws.{bytes_of}

stops : (rest : List ℕ) → EndsField rest → goes_on rest ≡ false
stops [] h = refl
stops (b ∷ bs) h = grind (arith, nat_tests)

-- blanks before a field are passed over
pub fields_blank : (p : ℕ) (bs rest : List ℕ) → AllByRecursion Blank bs → fields p (bs ++ rest) ≡ fields (p + length bs) rest
fields_blank p [] rest h = grind arith
fields_blank p (b ∷ bs) rest h = grind (arith, nat_tests, fields_blank (p + 1) bs rest)

-- a field goes up to a blank or the line's end
pub fields_field : (p : ℕ) (w rest : List ℕ) → Field w → EndsField rest → fields p (w ++ rest) ≡ record { at = p; bytes = w } ∷ fields (p + length w) rest
fields_field p [] rest h parts = absurd (h.0 refl)
fields_field p (b ∷ []) rest h parts = grind (arith, nat_tests, h.1.0.0, stops rest parts)
fields_field p (b ∷ c ∷ w) rest h parts = grind (arith, nat_tests, h.1.0.0, h.1.1.0.0, fields_field (p + 1) (c ∷ w) rest (λ e. cc, h.1.1) parts)

pub fields_none : (p : ℕ) (line : List ℕ) → AllByRecursion Blank line → fields p line ≡ []
fields_none p line h = grind (arith, append-nil line, fields_blank p line [] h)

-- a line of these fields has just these fields
pub fields_are : (p : ℕ) (ws : List (List ℕ)) (line : List ℕ) → Fields ws line → bytes_of (fields p line) ≡ ws
fields_are p [] line h = ap bytes_of (fields_none p line h)
fields_are p (w ∷ ws) line h = grind (arith, h.2, fields_blank p h.0 (w ++ h.1) h.3, fields_field (p + length h.0) w h.1 h.4 h.5, fields_are (p + length h.0 + length w) ws h.1 h.6)

-- one blank more before the fields
pub fields_after : (b : ℕ) (ws : List (List ℕ)) (line : List ℕ) → Blank b → Fields ws line → Fields ws (b ∷ line)
fields_after b [] line k h = (k, h)
fields_after b (w ∷ ws) line k h = (b ∷ h.0, h.1, ap (λ l. b ∷ l) h.2, (k, h.3), h.4, h.5, h.6)

ends_field : (rest : List ℕ) → goes_on rest ≡ false → EndsField rest
ends_field [] e = tt
ends_field (b ∷ bs) e = grind (arith, nat_tests)

-- a field grows by the byte before it
field_grows : (b p : ℕ) (bs : List ℕ) (ps : List Piece) → (Blank b → ⊥) × Inline b → goes_on bs ≡ true → Fields (bytes_of ps) bs → Fields (bytes_of (grown b p ps)) (b ∷ bs)
field_grows b p [] ps k on h = cc
field_grows b p (c ∷ bs) [] k on h = grind (arith, nat_tests)
field_grows b p (c ∷ bs) (q ∷ ps) k on h = by h.0 h.2 h.3
  where
    by : (before : List ℕ) → c ∷ bs ≡ before ++ (q.bytes ++ h.1) → AllByRecursion Blank before → Fields (bytes_of (grown b p (q ∷ ps))) (b ∷ c ∷ bs)
    by [] e a = ([], h.1, cc, tt, (λ e. cc, (k, h.4.1)), h.5, h.6)
    by (d ∷ before) e a = grind (arith, nat_tests)

-- each line is one of its fields
pub fields_of : (p : ℕ) (line : List ℕ) → AllByRecursion Inline line → Fields (bytes_of (fields p line)) line
fields_of p [] h = tt
fields_of p (b ∷ bs) h =
    let rest = fields_of (p + 1) bs h.1 in
    cond_both (blank b) _ _ (λ ps. Fields (bytes_of ps) (b ∷ bs)) (λ e. fields_after b _ bs (grind (arith, nat_tests)) rest)
    (λ e.
    let k : (Blank b → ⊥) × Inline b = (λ k. grind (arith, nat_tests), h.0) in
    cond_both (goes_on bs) _ _ (λ ps. Fields (bytes_of ps) (b ∷ bs)) (λ on. field_grows b p bs _ k on rest)
    (λ on. ([], bs, refl, tt, (λ e. cc, (k, tt)), ends_field bs on, rest)))
