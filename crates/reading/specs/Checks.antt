-- How the first pass speaks of the rules that it reads.
use Rattle.std.specs.Prelude.{ℕ, List, length, Ok, Err, Result}
use Rattle.parts.specs.declared.fault.Fault.{Fault}
use Rattle.book.specs.Meaning.{Rule}

-- how many marks a rule has that was read
abbrev pub count_or_fault : Result Rule Fault → Result ℕ Fault
count_or_fault (Ok r) = Ok (length r)
count_or_fault (Err e) = Err e

-- whether rules were read
abbrev pub done_or_fault : Result (List Rule) Fault → Result (Unit {0}) Fault
done_or_fault (Ok rs) = Ok tt
done_or_fault (Err e) = Err e
