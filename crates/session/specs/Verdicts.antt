-- What stands of a session, as the search by definition has it: of the row of the named holds the
-- first n codes count.
use Rattle.std.specs.Prelude.{ℕ, take}
use Rattle.search.specs.Machine as machine
use Rattle.session.specs.declared.verdict.Verdict.{Verdict}
use Rattle.session.specs.declared.verdict.Verdict.TheVariants.{Working, Fits, NoneFits}

abbrev pub verdict_of : ℕ → Verdict → machine.Verdict
verdict_of n Working = machine.working
verdict_of n Fits = machine.fits
verdict_of n (NoneFits named) = machine.none_fits (take n named)
