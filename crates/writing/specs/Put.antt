-- The pieces of a book's text that are put on a page.
use Rattle.std.specs.Prelude.{ℕ, List, [], ◌∷◌, ◌++◌}
use Rattle.std.specs.List.{flat_map}
use Rattle.std.specs.Option.{unwrap_or}
use Rattle.parts.specs.declared.mark.Mark.{Mark}
use Rattle.parts.specs.Lists.{at_place}
use Rattle.book.specs.Meaning.{Rule}
use Rattle.grammar.specs.Writing.{mark_field}

-- a mark and a space
abbrev pub spaced_mark : Mark → List ℕ
spaced_mark m = mark_field m ++ 32 ∷ []

abbrev pub marks_text : Rule → List ℕ
marks_text r = flat_map spaced_mark r

-- a rule by its number, counted from 1; where there is none, it has no marks
abbrev pub rule_at : List Rule → ℕ → Rule
rule_at rs rule = unwrap_or (at_place rs rule) []
