-- How a repair is printed.
use Rattle.std.specs.Prelude.{ℕ, ◌+◌, List, [], ◌∷◌, ◌++◌, None, Some, codes, decimal, Option, slice_index, vec_items}
use Rattle.parts.specs.Codes.{side_of, side_text}
use Rattle.parts.specs.Numbers.{fault_text}
use Rattle.parts.specs.declared.fault.Fault.{Fault}
use Rattle.parts.specs.declared.side.Side.{Side}
use Rattle.search.specs.declared.report.Answer.{Answer}
use Rattle.search.specs.declared.report.Answer.TheVariants.{Fits, NoneFits, Spent}
use Rattle.search.specs.declared.report.Report.{Report}
use Rattle.search.specs.Words.{answer_text}
use Rattle.text.specs.Pieces.{Piece}
use Rattle.repair.specs.declared.repair.Repair.{Repair}

-- what begins the line of a part that the row names; a spent search names none
abbrev pub word_text : Answer → List ℕ
word_text Fits = codes "part"
word_text NoneFits = codes "held"
word_text Spent = codes "held"

-- word, number, side and name, with one tab (9) between them and a line feed (10) at the end
abbrev pub side_line : List ℕ → ℕ → List ℕ → Side → List ℕ
side_line word part name side =
    word ++ (9 ∷ decimal part ++ (9 ∷ side_text side ++ (9 ∷ name ++ 10 ∷ [])))

-- the line of a part with this code; none for code 0
abbrev pub line_by : List ℕ → ℕ → List ℕ → Option Side → List ℕ
line_by word part name None = []
line_by word part name (Some side) = side_line word part name side

abbrev pub part_text : List ℕ → ℕ → ℕ → List ℕ → List ℕ
part_text word part code name = line_by word part name (side_of code)

-- the names from an index on, with the row's codes
abbrev pub parts_text : List ℕ → List ℕ → ℕ → List Piece → List ℕ
parts_text word row i [] = []
parts_text word row i (name ∷ names) =
    part_text word (i + 1) (slice_index row i) name.bytes ++ parts_text word row (i + 1) names

-- verdict, steps and turns, a line each
abbrev pub report_text : Report → List ℕ
report_text r =
    codes "verdict\t"
    ++ (answer_text r.answer
    ++ (codes "\nsteps\t"
    ++ (decimal r.steps ++ (codes "\nturns\t" ++ (decimal r.turns ++ codes "\n")))))

-- then the parts of a choice that fits, or the holds that leave none, by rising part
abbrev pub solution_text : Report → List ℕ → List Piece → List ℕ
solution_text r row names = report_text r ++ parts_text (word_text r.answer) row 0 names

abbrev pub repair_text : Repair → List ℕ
repair_text r = solution_text r.solution.report (vec_items r.solution.row) r.sheet.names

-- a refusal: number, byte and rule
abbrev pub refused_text : Fault → List ℕ
refused_text f = codes "refused\t" ++ (fault_text f ++ codes "\n")
