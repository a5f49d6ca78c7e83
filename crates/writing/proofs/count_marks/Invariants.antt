use Rattle.parts.specs.declared.limits.TheConstants.{MOST_TEXT_MARKS}
use Rattle.std.proofs.Common.{◌≡◌, ◌+◌, ◌≤◌, drop}
use Rattle.book.specs.Meaning.{count_marks}
use Rattle.writing.proofs.count_marks.Given as goal

abbrev pub invariant-loop-before : goal.invariant-loop-before
invariant-loop-before g l =
    let rs = (g.B.Book.meaning l.book).rules in
    (l.left ≤ MOST_TEXT_MARKS) × (count_marks rs + l.left ≡ MOST_TEXT_MARKS + count_marks (drop l.before rs))
