-- How answers are printed.
use Rattle.std.specs.Prelude.{ℕ, List, codes}
use Rattle.search.specs.declared.report.Answer.{Answer}
use Rattle.search.specs.declared.report.Answer.TheVariants.{Fits, NoneFits, Spent}

-- a word
abbrev pub answer_text : Answer → List ℕ
answer_text Fits = codes "fits"
answer_text NoneFits = codes "none"
answer_text Spent = codes "spent"
