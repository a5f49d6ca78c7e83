-- The worked cases of texts, by computation.
use Rattle.std.proofs.Common.{refl}
use Rattle.grammar.specs.Reading.{read_of}
use Rattle.grammar.specs.Cases.{CasesHold}

pub cases_hold : CasesHold
unfolding read_of
cases_hold = refl
