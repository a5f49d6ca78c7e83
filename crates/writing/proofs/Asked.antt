-- What a book answers of its rules, counted from 1, by the lists that they are.
use Rattle.std.proofs.Common.{◌≡◌, ℕ, ◌+◌, ◌<◌, List, [], length, get_or, drop, Some, unwrap_or, arith}
use Rattle.std.proofs.lemmas.List.{at_drop_more}
use Rattle.std.proofs.lemmas.Option.{slice_get-get_or}
use Rattle.parts.specs.declared.mark.Mark.{Mark}
use Rattle.parts.specs.declared.side.Side.TheVariants.{In}
use Rattle.parts.specs.Lists.{at_place}
use Rattle.book.specs.Meaning.{Rule, marks_of, mark_of, count_marks}
use Rattle.writing.specs.Put.{rule_at}

-- the item after so many is there
item_there : {X : Type 0} (xs : List X) (before : ℕ) (d : X) → before < length xs → at_place xs (before + 1) ≡ Some (get_or xs before d)
item_there xs before d more = grind (arith, slice_get-get_or xs before d more)

pub marks_asked : (rs : List Rule) (rule : ℕ) → unwrap_or (marks_of rs rule) 0 ≡ length (rule_at rs rule)
marks_asked rs rule = grind arith

-- the rule after so many is there, and the marks from it on
module _ (rs : List Rule) (before : ℕ) (more : before < length rs) where
  pub rule_there : at_place rs (before + 1) ≡ Some (rule_at rs (before + 1))
  rule_there = grind (arith, item_there rs before [] more)

  pub count_from : count_marks (drop before rs) ≡ unwrap_or (marks_of rs (before + 1)) 0 + count_marks (drop (before + 1) rs)
  count_from = grind (arith, at_drop_more count_marks rs before [] more, item_there rs before [] more)

-- and the mark after so many of a rule
pub mark_there : (rs : List Rule) (rule before : ℕ) → before < length (rule_at rs rule) → (m : Mark) × (mark_of rs rule (before + 1) ≡ Some m) × (at_place (rule_at rs rule) (before + 1) ≡ Some m)
mark_there rs rule before more =
    let none : Mark = record { part = 0; side = In } in
    let there = item_there (rule_at rs rule) before none more in
    (get_or (rule_at rs rule) before none, grind arith, there)
