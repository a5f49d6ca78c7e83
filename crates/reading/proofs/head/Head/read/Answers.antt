use Rattle.std.proofs.Common.{◌≡◌, ℕ, length}
use Rattle.std.proofs.lemmas.Result.{err_from_is_err_and}
use Rattle.text.specs.Pieces.{lines}
use Rattle.grammar.specs.Reading.{counted, from_head, head_of}
use Rattle.grammar.proofs.Accepted.{from_size}
use Rattle.text.specs.Views.{piece_of}
use Rattle.reading.specs.Counted.{lines_left}
use Rattle.reading.proofs.Counting.{head_line, head_none}
use Rattle.reading.proofs.head.Head.read.Goals as goal
use Rattle.reading.proofs.head.Head.read.Goals.{In-Some}

pub returns-in_default : goal.returns-in_default
returns-in_default c = λ marks ends. rw (c.new.ensures) (head_none marks ends (length c.args.text.now) (lines 0 c.args.text.now) (rw (← c.new-lines.ensures.lines) c.in_default.ensures.steps.0.0))

-- the text by its first line that counts
first : (c : In-Some) (marks ends : ℕ) → from_head marks ends (length c.args.text.now) (lines 0 c.args.text.now) ≡ from_size marks ends (length c.args.text.now) (lines_left c.next.new.self) (head_of c.in-Some.line.at (counted (piece_of c.in-Some.line)))
first c marks ends = head_line marks ends (length c.args.text.now) (lines 0 c.args.text.now) (piece_of c.in-Some.line) (lines_left c.next.new.self) (rw (← c.new-lines.ensures.lines) c.in-Some.ensures.steps.0)

pub returns-in_err-size : goal.returns-in_err-size
returns-in_err-size c =
    let p = err_from_is_err_and c.from_residual.result c.from_residual.ensures.1 in
    let d = (goal.at.returns-in_err-size c).In-Some in
    rw (p.1, p.2) (λ marks ends. rw (first d marks ends, ← c.in_err-size.ensures.value))

pub returns : goal.returns
returns c = λ marks ends. let d = (goal.at.returns c).In-Some in rw (first d marks ends, ← c.in_ok-size.ensures.value, c.in-Some.ensures.steps.1, c.new-lines.ensures.end)
