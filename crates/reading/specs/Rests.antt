-- What is left of a text once a line was read for each rule.
use Rattle.std.specs.Prelude.{◌≡◌, ℕ}
use Rattle.grammar.specs.declared.Room.{Room}
use Rattle.grammar.specs.Reading.{rules_of}
use Rattle.reading.specs.Checks.{done_or_fault}
use Rattle.reading.specs.Counted.{lines_left, text_end}
use Rattle.reading.specs.declared.counted.CountedLines.{CountedLines}
use Rattle.reading.specs.declared.head.Head.{Head}

-- the lines that are left once m rules are read pass exactly if all lines after the head do
abbrev pub Leaves : Head → Room → CountedLines → Type 0
Leaves h room left =
    let reads = rules_of room (text_end h.rules) h.size.m in
    (used : ℕ)
    × (done_or_fault (reads h.size.m used (lines_left left))
    ≡ done_or_fault (reads 0 0 (lines_left h.rules)))
