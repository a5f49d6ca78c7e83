-- A step's move as the search has it, and what is open before it.
use Rattle.std.specs.Prelude.{List, None, IsTrue}
use Rattle.std.specs.List.{find}
use Rattle.parts.specs.declared.mark.Mark.{Mark}
use Rattle.parts.specs.Rows.{Row, is_full}
use Rattle.search.specs.Trail.{row, reason_of_crossed, truth, says_open}
use Rattle.search.specs.Machine as machine
use Rattle.search.specs.Machine.{choose}
use Rattle.trail.specs.Settling.{Settling, can_settle}
use Rattle.session.specs.declared.moves.Move.{Move}
use Rattle.session.specs.declared.moves.Move.TheVariants.{TurnOn, Force, Settle, Fit, Ask}

abbrev pub as_move : Move → machine.Move
as_move (TurnOn r) = machine.turn_on r
as_move (Force m r) = machine.force (record { mark = m; by = r })
as_move (Settle h) = machine.settle h
as_move Fit = machine.fit
as_move Ask = machine.ask

-- the mark that a move settles is open
abbrev pub Settles : Settling → Move → Type 0
Settles t (TurnOn r) = Unit {0}
Settles t (Force m r) = IsTrue (can_settle t m)
Settles t (Settle h) = IsTrue (can_settle t h)
Settles t Fit = Unit {0}
Settles t Ask = Unit {0}

-- what a step does under these holds where no rule is broken or pressing
abbrev pub move_by_holds : Settling → List Mark → machine.Move
move_by_holds t hs =
    let now : Row = row t.n t.entries in
    choose None None
    (reason_of_crossed now t.entries hs)
    (find (λ h. says_open (truth now h)) hs)
    (is_full now)
