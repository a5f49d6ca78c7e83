use Rattle.std.proofs.Common.{arith}
use Rattle.text.specs.Views.{piece_of}
use Rattle.reading.specs.Counted.{all_lines, lines_left}
use Rattle.reading.proofs.Counting.{some_field, head_counts}
use Rattle.reading.proofs.head.Head.check_rules.Goals as goal

-- a line that counts has a field
pub returns-in-None : goal.returns-in-None
returns-in-None c =
    let l = piece_of c.in-Some.line in
    let ls = lines_left c.next.new.self in
    let (f, fs, is) = some_field l (head_counts (all_lines c.in_ok-after.after) l ls c.in-Some.ensures.steps.0) in
    grind (arith, is, c.counted_fields.ensures, c.in-None.ensures.steps)
