use Rattle.std.proofs.Common.{◌≡◌, true, map, length, drop}
use Rattle.book.specs.Meaning.{sound_rules}
use Rattle.parts.specs.Marks.{mark_from}
use Rattle.book.specs.Tables.{cut, rising, marks_limit}
use Rattle.book.proofs.text.rules_sound.Given as goal

abbrev pub invariant-loop-end : goal.invariant-loop-end
invariant-loop-end l =
    (rising (marks_limit (length l.marks)) l.from (drop l.end-index l.ends) ≡ true)
    × (sound_rules l.n (cut l.from (drop l.end-index l.ends) (map mark_from l.marks)) ≡ sound_rules l.n (cut 0 l.ends (map mark_from l.marks)))
