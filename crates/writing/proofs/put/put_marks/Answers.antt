use Rattle.parts.specs.declared.limits.TheConstants.{MOST_TEXT_BYTES}
use Rattle.std.proofs.Common.{refl, arith}
use Rattle.std.proofs.lemmas.Result.{err_from_is_err_and}
use Rattle.writing.specs.Put.{spaced_mark, marks_text, rule_at}
use Rattle.writing.proofs.Asked.{marks_asked, mark_there}
use Rattle.text.proofs.PageLaws.{put_one, no_room}
use Rattle.writing.proofs.put.put_marks.Goals as goal
use Rattle.writing.proofs.put.put_marks.Goals.{in-Some+in_ok-put_mark, in_default}

pub returns-in_err-put_mark : goal.returns-in_err-put_mark
returns-in_err-put_mark g c =
    let rs = (g.B.Book.meaning c.args.book.now).rules in
    let n = marks_asked rs c.args.rule in
    let (m, is, there) = mark_there rs c.args.rule c.loop-before.before (grind arith) in
    let fails = no_room spaced_mark (rule_at rs c.args.rule) c.loop-before.before m there c.loop-before.page.bytes _ c.loop-before.invariant MOST_TEXT_BYTES c.args.page.now.bytes (marks_text (rule_at rs c.args.rule)) refl in
    let p = err_from_is_err_and c.from_residual.result c.from_residual.ensures.1 in
    rw (p.1) (fails (grind arith))

pub loop-before-preserved : goal.loop-before-preserved
loop-before-preserved g c =
    let rs = (g.B.Book.meaning c.args.book.now).rules in
    let n = marks_asked rs c.args.rule in
    let (m, is, there) = mark_there rs c.args.rule c.loop-before.before (grind arith) in
    elim c.match-mark.branch [
      | in-Some+in_ok-put_mark w ↦ put_one spaced_mark (rule_at rs c.args.rule) c.loop-before.before m there c.loop-before.page.bytes _ c.loop-before.invariant _ (grind (arith, w.page-is, w.in_ok-put_mark.ensures))
      | in_default w ↦ grind (arith, w.in_default.not-Some, c.mark.ensures)
    ]
