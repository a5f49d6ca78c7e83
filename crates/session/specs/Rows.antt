-- Rows that questions fill.
use Rattle.std.specs.Prelude.{ℕ, if◌then◌else◌, ◌==◌, Some, None, Ok, Err, Option, Result}
use Rattle.parts.specs.declared.refusal.Refusal.{Refusal}
use Rattle.parts.specs.declared.refusal.Refusal.TheVariants.{RowLength, NoSuchVerdict}
use Rattle.parts.specs.Rows.{Row}
use Rattle.search.specs.Trail.{row}
use Rattle.search.specs.Machine.{Bench, Machine, Verdict, working, fits, none_fits}

-- a row that is filled, or left as it was
abbrev pub row_or : Result Row Refusal → Row → Row
row_or (Ok r) old = r
row_or (Err why) old = old

-- the n codes that there are to show, into a row of some length
abbrev pub shown_codes : ℕ → Option Row → ℕ → Result Row Refusal
shown_codes n None len = if len == n then Err NoSuchVerdict else Err RowLength
shown_codes n (Some row) len = if len == n then Ok row else Err RowLength

abbrev pub done : Result Row Refusal → Result (Unit {0}) Refusal
done (Ok r) = Ok tt
done (Err why) = Err why

-- the codes that a standing verdict has to show: the choice that fits, and the holds that clash
abbrev pub fitting_by : Row → Verdict → Option Row
fitting_by now working = None
fitting_by now fits = Some now
fitting_by now (none_fits r) = None

abbrev pub fitting_row : Bench → Machine → Option Row
fitting_row b m = fitting_by (row b.book.n m.trail) m.verdict

abbrev pub clashing_by : Verdict → Option Row
clashing_by working = None
clashing_by fits = None
clashing_by (none_fits r) = Some r

abbrev pub clashing_row : Machine → Option Row
clashing_row m = clashing_by m.verdict
