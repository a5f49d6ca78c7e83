use Rattle.parts.specs.declared.limits.TheConstants.{MOST_TEXT_BYTES}
use Rattle.std.proofs.Common.{◌≡◌, ◌++◌, length, arith}
use Rattle.std.proofs.lemmas.Result.{err_from_is_err_and}
use Rattle.std.proofs.lemmas.List.{append_assoc}
use Rattle.std.specs.List.{flat_map}
use Rattle.grammar.specs.Writing.{head_line, rule_line, text_of}
use Rattle.writing.proofs.Asked.{rule_there}
use Rattle.text.proofs.PageLaws.{put_one, no_room}
use Rattle.writing.proofs.put.put_book.Goals as goal
use Rattle.writing.proofs.put.put_book.Goals.{In_ok-put_head}

-- the page with the head, and the rules that are to come
begun : (g : _) (c : In_ok-put_head g) → let b = g.B.Book.meaning c.args.book.now in c.put_head.new.page.bytes ++ flat_map rule_line b.rules ≡ c.args.page.now.bytes ++ text_of b
begun g c =
    let b = g.B.Book.meaning c.args.book.now in
    grind (arith, append_assoc c.args.page.now.bytes (head_line b.n (length b.rules)) (flat_map rule_line b.rules), c.in_ok-put_head.ensures, c.n.ensures, c.rules.ensures)

pub returns-in_err-put_rule : goal.returns-in_err-put_rule
returns-in_err-put_rule g c =
    let b = g.B.Book.meaning c.args.book.now in
    let p = err_from_is_err_and c.from_residual-in_err-put_rule.result c.from_residual-in_err-put_rule.ensures.1 in
    rw (p.1) (no_room rule_line b.rules c.loop-before.before _ (rule_there b.rules c.loop-before.before (omega arith)) c.loop-before.page.bytes _ c.loop-before.invariant MOST_TEXT_BYTES c.args.page.now.bytes (text_of b) (begun g (goal.at.returns-in_err-put_rule g c).In_ok-put_head) c.in_err-put_rule.ensures)

pub loop-before-preserved : goal.loop-before-preserved
loop-before-preserved g c =
    let rs = (g.B.Book.meaning c.args.book.now).rules in
    put_one rule_line rs c.loop-before.before _ (rule_there rs c.loop-before.before (omega arith)) c.loop-before.page.bytes _ c.loop-before.invariant c.put_rule.new.page.bytes c.in_ok-put_rule.ensures
