use Rattle.std.proofs.Common.{◌≡◌, ◌++◌, drop}
use Rattle.writing.specs.Put.{marks_text, rule_at}
use Rattle.writing.proofs.put.put_marks.Given as goal

abbrev pub invariant-loop-before : goal.invariant-loop-before
invariant-loop-before g l =
    let r = rule_at (g.B.Book.meaning l.book).rules l.rule in
    l.page.bytes ++ marks_text (drop l.before r) ≡ l.initial.page.bytes ++ marks_text r
