use Rattle.std.proofs.Common.{arith}
use Rattle.std.proofs.lemmas.Result.{err_from_is_err_and}
use Rattle.text.specs.Views.{piece_of}
use Rattle.reading.specs.Counted.{all_lines, lines_left, text_end}
use Rattle.reading.proofs.Counting.{on_rule, on_fault, head_counts}
use Rattle.reading.proofs.head.Head.check_lines.Goals as goal

pub returns-in_err-used : goal.returns-in_err-used
returns-in_err-used c =
    let h = c.args.self.now in
    let l = piece_of c.in-Some.line in
    let ls = lines_left c.next.new.self in
    let e = c.in-Some.ensures.steps.0 in
    let f = on_fault c.args.room (text_end h.rules) h.size.m c.loop-done.done c.loop-done.used (lines_left c.loop-done.lines) (omega arith) l ls e (head_counts (all_lines c.loop-done.lines) l ls e) _ (rw (c.end-in-loop-done.ensures) at c.in_err-used.ensures.value) in
    let p = err_from_is_err_and c.from_residual.result c.from_residual.ensures.1 in
    rw (p.1, p.2, ← f) c.loop-done.invariant.1

pub loop-done-preserved : goal.loop-done-preserved
loop-done-preserved c =
    let h = c.args.self.now in
    let e = on_rule c.args.room (text_end h.rules) h.size.m c.loop-done.done c.loop-done.used (lines_left c.loop-done.lines) (omega arith) (piece_of c.in-Some.line) (lines_left c.next.new.self) c.in-Some.ensures.steps.0 c.in_ok-used.field-0 (rw (c.end-in-loop-done.ensures) at c.in_ok-used.ensures.value) in
    (omega (arith, c.in_ok-used.ensures.few), grind (arith, c.loop-done.invariant))
