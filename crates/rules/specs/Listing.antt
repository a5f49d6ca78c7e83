-- Rules over n parts by their numbers from 1, some of which may be missing.
use Rattle.std.specs.Prelude.{ℕ, Bool, true, IsTrue, List, map, length, Some, None, Option, slice_index_or}
use Rattle.std.specs.Option.{option_flatten, option_map, option_and_then}
use Rattle.parts.specs.declared.mark.Mark.{Mark}
use Rattle.parts.specs.Distinct.{is_distinct}
use Rattle.parts.specs.Lists.{at_place}
use Rattle.parts.specs.Rows.{row_marks}
use Rattle.book.specs.Meaning.{Rule, RuleBook}
use Rattle.shelf.specs.Meaning.{Shelved}

pub record Listed : Type 0 where
  pub n : ℕ
  pub rules : List (Option Rule)

-- a rule that is there names parts from 1 to n, and none twice
abbrev pub sound_if_there : ℕ → Option Rule → Bool
sound_if_there n None = true
sound_if_there n (Some r) = is_distinct n r

-- what every list of rules keeps
pub record SoundList (l : Listed) : Type 0 where
  pub sound : (i : ℕ) → IsTrue (sound_if_there l.n (slice_index_or l.rules i None))

-- a rule by its number, how many marks it has, and one of them by its place;
-- nothing where it is missing, or outside
abbrev pub rule_in : List (Option Rule) → ℕ → Option Rule
rule_in rs i = option_flatten (at_place rs i)

abbrev pub marks_in : List (Option Rule) → ℕ → Option ℕ
marks_in rs i = option_map length (rule_in rs i)

abbrev pub mark_in : List (Option Rule) → ℕ → ℕ → Option Mark
mark_in rs i k = option_and_then (λ r. at_place r k) (rule_in rs i)

-- a book's rules, and a shelf's lessons by their places, where an empty place is a missing rule
abbrev pub book_list : RuleBook → Listed
book_list b = record { n = b.n; rules = map Some b.rules }

abbrev pub shelf_list : Shelved → Listed
shelf_list s = record { n = s.n; rules = map (option_map row_marks) s.rows }
