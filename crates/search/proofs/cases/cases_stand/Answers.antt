use Rattle.std.proofs.Common.{refl}
use Rattle.search.specs.Trail.{settled, reason_of, row, enter, leave}
use Rattle.search.specs.Machine.{rule_at, reasons, look, resolve, turn, needed, around, next_place, open_count, drops, sweep, swept, named_holds, pushed, turned, fitted, asked, act, step, run}
use Rattle.search.specs.Calls.{opened, restarted, refuses, accepted, call, calls}
use Rattle.parts.specs.Rows.{names_mark}
use Rattle.search.proofs.cases.cases_stand.Goals as goal

pub returns : goal.returns
unfolding settled reason_of row enter leave rule_at reasons look resolve turn needed around next_place open_count drops sweep swept named_holds pushed turned fitted asked act step run opened restarted refuses accepted call calls names_mark
returns c = record { count = refl; cases = refl }
