-- The worked cases of bench sheets, by computation.
use Rattle.std.proofs.Common.{refl}
use Rattle.sheet.specs.Reading.{sheet_of}
use Rattle.sheet.specs.Cases.{CasesHold}

pub cases_hold : CasesHold
unfolding sheet_of
cases_hold = refl
