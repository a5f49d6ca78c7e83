use Rattle.std.proofs.Common.{◌≡◌, ◌+◌, ◌-◌, ◌<◌, ◌∷◌, length, drop, ap, rules, tests, arith}
use Rattle.std.proofs.lemmas.Iterator.{YieldsList-from_slice}
use Rattle.text.specs.Pieces.{lines}
use Rattle.text.specs.Views.{lines_left}
use Rattle.text.proofs.Runs.{inline, leading, next_lines, line_run, after_feed, after_last}
use Rattle.text.proofs.lines.LinesIterator.next.Goals as goal
use Rattle.text.proofs.lines.LinesIterator.next.Goals.{in-empty, in-len1-up, Joined-after-lt1}

-- the first line goes up to its feed, and the others are left
first : (c : Joined-after-lt1) →
    let s = c.args.self.now in
    let rest = c.if-after-lt1.rest.now in
    lines_left s ≡ record { at = s.at; bytes = c.split_at.result.0.now } ∷ lines (s.at + (length s.rest.now - length rest)) rest
first c =
    let s = c.args.self.now in
    let bs = s.rest.now in
    let n = leading _ inline c.count-len.result c.count-len.ensures.ran (YieldsList-from_slice bs cc) c.take_while.ensures.closure c.take_while.ensures.done (λ x b q k. search (rules, tests)) in
    let some : 0 < length bs = search rules in
    let len = c.count-len.result in
    let back = c.split_at.ensures.back in
    let size = c.split_at.ensures.back_len in
    let after : lines (s.at + (length bs - length c.if-after-lt1.rest.now)) c.if-after-lt1.rest.now ≡ next_lines (s.at + len) (drop len bs) =
    elim c.if-after-lt1.branch [
      | in-empty w ↦ after_last s.at len bs _ _ back size w.in-empty.len_below (ap (λ x. x.now) w.rest-is)
      | in-len1-up w ↦ after_feed s.at len bs _ _ back size w.in-len1-up.len_at_least (ap (λ x. x.now) w.rest-is)
    ] in
    rw (after, c.split_at.ensures.front, n) (line_run s.at bs some)

pub returns-clause-steps : goal.returns-clause-steps
returns-clause-steps c = (first (goal.at.returns-clause-steps c).Joined-after-lt1, search rules)

pub returns-clause-goes : goal.returns-clause-goes
returns-clause-goes c =
    let fewer = ap length (first (goal.at.returns-clause-goes c).Joined-after-lt1) in
    search (rules, arith)
