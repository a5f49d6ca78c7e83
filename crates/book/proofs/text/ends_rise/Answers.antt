use Rattle.std.proofs.Common.{arith}
use Rattle.std.proofs.lemmas.Bool.Decides.{nat_tests, when_true, when_false}
use Rattle.std.proofs.lemmas.List.Sorted.{non_decreasing_from_is_sorted}
use Rattle.book.proofs.Spans.{sorted_rises, falls}
use Rattle.book.proofs.text.ends_rise.Goals as goal

pub returns-then-is_sorted : goal.returns-then-is_sorted
returns-then-is_sorted c =
    let es = c.args.ends.now in
    let s = when_true _ _ c.if-is_sorted.true (non_decreasing_from_is_sorted es c.is_sorted.result c.is_sorted.ensures.cases) in
    let r = sorted_rises c.args.limit es s in
    grind (arith, nat_tests)

pub returns-else-is_sorted : goal.returns-else-is_sorted
returns-else-is_sorted c =
    let es = c.args.ends.now in
    let f = when_false _ _ c.if-is_sorted.false (non_decreasing_from_is_sorted es c.is_sorted.result c.is_sorted.ensures.cases) in
    let r = falls c.args.limit 0 es f.0 f.1 (f.2 0) in
    cc
