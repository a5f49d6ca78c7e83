use Rattle.std.proofs.Common.{◌≡◌, ◌++◌, drop}
use Rattle.std.specs.List.{flat_map}
use Rattle.grammar.specs.Writing.{rule_line}
use Rattle.writing.proofs.put.put_book.Given as goal

abbrev pub invariant-loop-before : goal.invariant-loop-before
invariant-loop-before g l =
    let rs = (g.B.Book.meaning l.book).rules in
    l.page.bytes ++ flat_map rule_line (drop l.before rs) ≡ l.initial.page.bytes ++ flat_map rule_line rs
