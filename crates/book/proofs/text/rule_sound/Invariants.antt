use Rattle.std.proofs.Common.{◌≡◌, map, length}
use Rattle.book.specs.Meaning.{sound_rule}
use Rattle.parts.specs.Marks.{mark_from}
use Rattle.book.proofs.text.rule_sound.Given as goal

abbrev pub invariant-loop-number : goal.invariant-loop-number
invariant-loop-number l = sound_rule l.n (map mark_from l.rest) ≡ sound_rule l.n (map mark_from l.marks)

abbrev pub decreases-loop-number : goal.decreases-loop-number
decreases-loop-number l = length l.rest
