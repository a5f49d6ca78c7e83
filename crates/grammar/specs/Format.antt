-- The format of a book's text, as a grammar: which texts stand for which book.
use Rattle.std.specs.Prelude.{◌≡◌, ℕ, ◌≤◌, IsTrue, ◌⊎◌, List, [], ◌∷◌, ◌++◌, map, length, codes, decimal}
use Rattle.std.specs.List.{AllByRecursion}
use Rattle.parts.specs.declared.limits.TheConstants.{MOST_PARTS, MOST_TEXT_RULES, MOST_TEXT_MARKS, MOST_TEXT_BYTES}
use Rattle.text.specs.Layout.{Blank, Fields, Lines}
use Rattle.book.specs.Meaning.{Rule, RuleBook, sound_rules, count_marks}
use Rattle.grammar.specs.Writing.{mark_field}

-- the line's first byte is c
abbrev pub Comment : List ℕ → Type 0
Comment [] = ⊥
Comment (b ∷ bs) = b ≡ 99

-- a line that is passed over
abbrev pub Skipped : List ℕ → Type 0
Skipped line = Comment line ⊎ AllByRecursion Blank line

-- the head: "p cnf N M"
abbrev pub Head : ℕ → ℕ → List ℕ → Type 0
Head n m line = Fields (codes "p" ∷ codes "cnf" ∷ decimal n ∷ decimal m ∷ []) line

-- a rule line: the rule's marks in their order, the last one included, and then 0
abbrev pub RuleLine : Rule → List ℕ → Type 0
RuleLine r line = Fields (map mark_field r ++ codes "0" ∷ []) line

-- the lines after the head: a line for each rule, in their order, and lines that are passed over
pub data Rest : List Rule → List (List ℕ) → Type 0 where
  ends : Rest [] []
  skips : {l : List ℕ} {rs : List Rule} {ls : List (List ℕ)} →
      Skipped l → Rest rs ls → Rest rs (l ∷ ls)
  reads : {l : List ℕ} {r : Rule} {rs : List Rule} {ls : List (List ℕ)} →
      RuleLine r l → Rest rs ls → Rest (r ∷ rs) (l ∷ ls)

-- all lines: the head is the first that is not passed over, and says how many rules there are
pub data Layout : ℕ → List Rule → List (List ℕ) → Type 0 where
  skips : {l : List ℕ} {n : ℕ} {rs : List Rule} {ls : List (List ℕ)} →
      Skipped l → Layout n rs ls → Layout n rs (l ∷ ls)
  begins : {l : List ℕ} {n : ℕ} {rs : List Rule} {ls : List (List ℕ)} →
      Head n (length rs) l → Rest rs ls → Layout n rs (l ∷ ls)

-- the text is one of those that the format allows for the book
pub record Format (b : RuleBook) (text : List ℕ) : Type 0 where
  pub each : List (List ℕ)
  pub of_lines : Lines each text
  pub layout : Layout b.n b.rules each
  pub short : length text ≤ MOST_TEXT_BYTES
  pub some : 1 ≤ b.n
  pub few : b.n ≤ MOST_PARTS
  pub rules_few : length b.rules ≤ MOST_TEXT_RULES
  pub marks_few : count_marks b.rules ≤ MOST_TEXT_MARKS
  pub rules_sound : IsTrue (sound_rules b.n b.rules)
