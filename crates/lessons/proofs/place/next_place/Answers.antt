use Rattle.std.proofs.Common.{rules, tests}
use Rattle.lessons.proofs.Lessons.{placed}
use Rattle.lessons.proofs.place.next_place.Goals as goal

pub returns : goal.returns
returns g c = placed _ _ _ _ c.or_else.result c.first_empty.ensures (rw (← c.places-places.ensures) (search (rules, tests)))
