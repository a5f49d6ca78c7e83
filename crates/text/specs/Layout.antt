-- Lines and fields as a grammar: which bytes stand for which.
use Rattle.std.specs.Prelude.{◌≡◌, ℕ, ◌⊎◌, ◌≢◌, List, [], ◌∷◌, ◌++◌}
use Rattle.std.specs.List.{AllByRecursion}

-- a space or a tab
abbrev pub Blank : ℕ → Type 0
Blank b = (b ≡ 32) ⊎ (b ≡ 9)

-- any byte but a line feed
abbrev pub Inline : ℕ → Type 0
Inline b = b ≡ 10 → ⊥

-- a field: one byte or more, none of them a blank or a line feed
abbrev pub Field : List ℕ → Type 0
Field w = (w ≢ []) × AllByRecursion (λ b. (Blank b → ⊥) × Inline b) w

-- where a field ends: at the line's end, or before a blank
abbrev pub EndsField : List ℕ → Type 0
EndsField [] = Unit {0}
EndsField (b ∷ bs) = Blank b

-- where a field of a text ends: where its line does, or before a blank
abbrev pub EndsWord : List ℕ → Type 0
EndsWord [] = Unit {0}
EndsWord (b ∷ bs) = Blank b ⊎ (b ≡ 10)

-- where a line of a text ends: at the text's end, or before a line feed
abbrev pub EndsLine : List ℕ → Type 0
EndsLine [] = Unit {0}
EndsLine (b ∷ bs) = b ≡ 10

-- where a field may start: at the text's start, or after a blank or a line feed
abbrev pub StartsField : List ℕ → Type 0
StartsField before =
    (before ≡ [])
    ⊎ ((front : List ℕ) × (b : ℕ) × (before ≡ front ++ b ∷ []) × (Blank b ⊎ (b ≡ 10)))

-- where a line starts: at the text's start, or after a line feed
abbrev pub StartsLine : List ℕ → Type 0
StartsLine before = (before ≡ []) ⊎ ((front : List ℕ) × (before ≡ front ++ 10 ∷ []))

-- a line with these fields: blanks stand between them, at least one, and may stand before and after
abbrev pub Fields : List (List ℕ) → List ℕ → Type 0
Fields [] line = AllByRecursion Blank line
Fields (w ∷ ws) line =
    (before : List ℕ) × (rest : List ℕ) × (line ≡ before ++ (w ++ rest))
    × AllByRecursion Blank before × Field w × EndsField rest × Fields ws rest

-- a text of these lines, each ended by one line feed; the last may lack it
abbrev pub Lines : List (List ℕ) → List ℕ → Type 0
Lines [] text = text ≡ []
Lines (l ∷ ls) text =
    AllByRecursion Inline l
    × (((rest : List ℕ) × (text ≡ l ++ 10 ∷ rest) × Lines ls rest)
    ⊎ ((text ≡ l) × (ls ≡ []) × (l ≢ [])))
