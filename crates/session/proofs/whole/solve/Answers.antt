use Rattle.std.proofs.Common.{◌≡◌, ◌∙◌, sym, length, arith}
use Rattle.search.specs.Machine.{Bench}
use Rattle.search.specs.Calls.{opened, restarted}
use Rattle.session.proofs.Solves.{accepted_solve, ok_parts}
use Rattle.session.proofs.whole.solve.Goals as goal

pub open_under-session-requires-clause-held : goal.open_under-session-requires-clause-held
open_under-session-requires-clause-held g c =
    let b : Bench = record { book = g.B.Book.meaning c.args.book; forget = c.args.forget } in
    let (none, is) = ok_parts _ _ _ (sym c.check_solve.ensures ∙ c.in-Ok.is) in
    rw is (accepted_solve b (g.P.Picker.meaning c.args.picker) (g.S.Shelf.meaning c.args.shelf) c.args.holds.now c.args.budget (length c.args.row.now) none).held

pub run_once-report-requires-clause-fresh : goal.run_once-report-requires-clause-fresh
unfolding opened restarted
run_once-report-requires-clause-fresh g c = (grind (arith, c.open_under-session.ensures.state), grind (arith, c.open_under-session.ensures.state))

pub run_once-report-requires-clause-long : goal.run_once-report-requires-clause-long
run_once-report-requires-clause-long g c =
    let b : Bench = record { book = g.B.Book.meaning c.args.book; forget = c.args.forget } in
    let (none, is) = ok_parts _ _ _ (sym c.check_solve.ensures ∙ c.in-Ok.is) in
    rw c.open_under-session.ensures.kept.0 (accepted_solve b (g.P.Picker.meaning c.args.picker) (g.S.Shelf.meaning c.args.shelf) c.args.holds.now c.args.budget (length c.args.row.now) none).long

pub returns-in-Ok-clause-truly : goal.returns-in-Ok-clause-truly
unfolding opened restarted
returns-in-Ok-clause-truly g c =
    let (none, is) = ok_parts _ _ _ (sym c.check_solve.ensures ∙ c.in-Ok.is) in
    let held : c.open_under-session.result.search.holds ≡ c.args.holds.now = grind (arith, c.open_under-session.ensures.state, is) in
    rw (c.open_under-session.ensures.kept.0, held) at c.run_once-report.ensures.truly

pub returns-in-Ok-clause-lessons : goal.returns-in-Ok-clause-lessons
returns-in-Ok-clause-lessons g c =
    let kept = c.run_once-report.ensures.kept in
    let made = c.open_under-session.ensures.kept in
    rw (kept.0, made.0) at c.close-book.ensures.lessons
