use Rattle.std.proofs.Common.{◌≡◌, ◌+◌, Some, Ok, arith}
use Rattle.shelf.specs.Meaning.{mark_of_place}
use Rattle.search.specs.Trail.{row as settled_row}
use Rattle.lessons.proofs.Lessons.{open_more, there_is_one}
use Rattle.lessons.proofs.forget.open_marks.Goals as goal

pub returns-in_default : goal.returns-in_default
returns-in_default g c =
    let there = there_is_one (g.S.Shelf.meaning c.args.shelf.now) c.args.place c.args.marks c.loop-passed.passed c.requires (omega arith) in
    absurd (grind (arith, there.1))

pub loop-passed-preserved : goal.loop-passed-preserved
loop-passed-preserved g c =
    let s = g.S.Shelf.meaning c.args.shelf.now in
    let now = settled_row c.args.trail.now.n c.args.trail.now.entries in
    let at : Ok (Some c.in-Ok-Some.mark) ≡ mark_of_place s c.args.place (c.loop-passed.passed + 1) = grind arith in
    let more = open_more now s c.args.place c.loop-passed.passed c.in-Ok-Some.mark at in
    grind (arith, more)
