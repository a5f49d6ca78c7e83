-- How a turn came out, and the rules that it resolves with.
use Rattle.std.specs.Prelude.{◌-◌, if◌then◌else◌, Some, None, Option, slice_set}
use Rattle.parts.specs.declared.mark.Mark.{Mark}
use Rattle.parts.specs.Codes.{code_of}
use Rattle.parts.specs.Marks.{opposite_of}
use Rattle.parts.specs.Rows.{Row, names_mark}
use Rattle.book.specs.Meaning.{Rule, RuleBook}
use Rattle.shelf.specs.Meaning.{Shelved}
use Rattle.search.specs.declared.reason.Reason.{Reason}
use Rattle.search.specs.Trail.{Trail}
use Rattle.search.specs.Machine.{Outcome, bottom, stop, rule_at}
use Rattle.turns.specs.declared.Reasons.{Reasons}

-- the mark at which a turn stopped, if any, with the working row and the rest of the trail
abbrev pub outcome : Option Mark → Row → Trail → Outcome
outcome None c t = bottom c
outcome (Some x) c t = stop x c t

-- the rule that a reason speaks of, by what the book and the shelf mean
abbrev pub rule_by : {B S : Type 0} → (B → RuleBook) → (S → Shelved) → Reasons B S → Reason
    → Option Rule
rule_by book shelf r reason = rule_at (book r.book.now).rules (shelf r.shelf.now).rows reason

-- the named holds with one hold more, if its opposite is in the working rule
abbrev pub with_hold : Row → Mark → Row → Row
with_hold c h named =
    if names_mark c (opposite_of h) then slice_set named (h.part - 1) (code_of h.side) else named
