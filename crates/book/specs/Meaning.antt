-- What a book means: n parts, and its rules as lists of marks (a formula in conjunctive normal
-- form, its clauses as lists of literals).
use Rattle.std.specs.Prelude.{ℕ, ◌+◌, ◌≤◌, Bool, IsTrue, List, [], ◌∷◌, length, Option}
use Rattle.std.specs.List.{list_all}
use Rattle.std.specs.Option.{option_map, option_and_then}
use Rattle.parts.specs.declared.limits.TheConstants.{MOST_PARTS, MOST_RULES}
use Rattle.parts.specs.declared.mark.Mark.{Mark}
use Rattle.parts.specs.Distinct.{is_distinct}
use Rattle.parts.specs.Lists.{at_place}

-- a rule (a clause) is the list of its marks
abbrev pub Rule : Type 0
Rule = List Mark

pub record RuleBook : Type 0 where
  pub n : ℕ
  pub rules : List Rule

-- how many marks a rule has, and one of them by its place; nothing outside
abbrev pub marks_of : List Rule → ℕ → Option ℕ
marks_of rs rule = option_map length (at_place rs rule)

abbrev pub mark_of : List Rule → ℕ → ℕ → Option Mark
mark_of rs rule place = option_and_then (λ r. at_place r place) (at_place rs rule)

-- how many marks all rules have together
abbrev pub count_marks : List Rule → ℕ
count_marks [] = 0
count_marks (r ∷ rs) = length r + count_marks rs

-- each part of a rule is from 1 to n, and none is named twice
abbrev pub sound_rule : ℕ → Rule → Bool
sound_rule n r = is_distinct n r

abbrev pub sound_rules : ℕ → List Rule → Bool
sound_rules n rs = list_all (sound_rule n) rs

-- what every book's meaning keeps
pub record Sound (b : RuleBook) : Type 0 where
  pub some : 1 ≤ b.n
  pub few : b.n ≤ MOST_PARTS
  pub rules_few : length b.rules ≤ MOST_RULES
  pub rules_sound : IsTrue (sound_rules b.n b.rules)
