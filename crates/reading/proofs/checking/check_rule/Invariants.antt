use Rattle.std.proofs.Common.{◌≡◌, [], length}
use Rattle.book.specs.Meaning.{Rule}
use Rattle.grammar.specs.Reading.{rule_of}
use Rattle.reading.specs.Named.{HasNamed}
use Rattle.text.specs.Views.{fields_left}
use Rattle.reading.proofs.checking.check_rule.Given as goal

abbrev pub invariant-loop-field : goal.invariant-loop-field
invariant-loop-field l =
    (l.open.room ≡ l.initial.open.room) × (l.open.start ≡ l.initial.open.start)
    × ((marks : Rule) × HasNamed l.open marks × (rule_of l.open.room l.open.start marks (fields_left l.fields) ≡ rule_of l.initial.open.room l.initial.open.start [] (fields_left l.initial.fields)))

abbrev pub decreases-loop-field : goal.decreases-loop-field
decreases-loop-field l = length (fields_left l.fields)
