-- The fields of a line that count, and the lines that are passed over.
use Rattle.std.proofs.Common.{◌≡◌, ℕ, List, [], ◌∷◌, ◌++◌, get_or, ◌≢◌, refl, inl, inr, arith}
use Rattle.std.specs.List.{AllByRecursion}
use Rattle.std.proofs.lemmas.Bool.Decides.{nat_tests}
use Rattle.text.specs.Pieces.{fields}
use Rattle.text.specs.Layout.{Blank, Inline, Fields}
use Rattle.text.proofs.LineLaws.{bytes_of}
use Rattle.text.proofs.FieldLaws.{fields_none, fields_are, fields_of}
use Rattle.grammar.specs.Reading.{counted_fields}
use Rattle.grammar.specs.Format.{Skipped}

-- a line that is passed over has no fields that count
pub counted_skipped : (p : ℕ) (line : List ℕ) → Skipped line → counted_fields p line ≡ []
counted_skipped p [] h = refl
counted_skipped p (b ∷ bs) (inl h) = grind (arith, nat_tests)
counted_skipped p (b ∷ bs) (inr h) = grind (arith, fields_none p (b ∷ bs) h)

-- what a line with these fields that count is
abbrev pub Counts : List (List ℕ) → List ℕ → Type 0
Counts [] line = Skipped line
Counts (w ∷ ws) line = Fields (w ∷ ws) line

counts : (ws : List (List ℕ)) (line : List ℕ) → Fields ws line → Counts ws line
counts [] line h = inr h
counts (w ∷ ws) line h = h

-- each line is one of its fields that count
pub counted_of : (p : ℕ) (line : List ℕ) → AllByRecursion Inline line → Counts (bytes_of (counted_fields p line)) line
counted_of p [] h = inr tt
counted_of p (b ∷ bs) h = grind (arith, nat_tests, counts (bytes_of (fields p (b ∷ bs))) (b ∷ bs) (fields_of p (b ∷ bs) h))

-- a line whose first field does not begin with c has just these fields that count
pub counted_are : (p : ℕ) (w : List ℕ) (ws : List (List ℕ)) (line : List ℕ) → (get_or w 0 0 ≡ 99 → ⊥) → Fields (w ∷ ws) line → bytes_of (counted_fields p line) ≡ w ∷ ws
counted_are p w ws [] n h = fields_are p (w ∷ ws) [] h
counted_are p w ws (b ∷ bs) n h = grind (arith, nat_tests, fields_are p (w ∷ ws) (b ∷ bs) h, by w h.0 h.4.0 h.2 h.3 n)
  where
    by : (v before : List ℕ) → v ≢ [] → b ∷ bs ≡ before ++ (v ++ h.1) → AllByRecursion Blank before → (get_or v 0 0 ≡ 99 → ⊥) → b ≢ 99
    by [] [] some e a n = absurd (some refl)
    by (c ∷ v) [] some e a n = grind arith
    by v (d ∷ before) some e a n = grind arith
