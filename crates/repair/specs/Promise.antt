-- What a repair promises, from the bytes of its two texts to the verdict.
use Rattle.std.specs.Prelude.{◌≡◌, ℕ, ◌⊎◌, List, Result, replicate, Ok, Err, vec_items}
use Rattle.parts.specs.declared.limits.TheConstants.{MOST_TABLE_PLACES, MOST_BUDGET, MOST_TEXT_MARKS, MOST_TEXT_RULES}
use Rattle.parts.specs.declared.fault.Fault.{Fault}
use Rattle.parts.specs.declared.mark.Mark.{Mark}
use Rattle.parts.specs.Rows.{Row}
use Rattle.book.specs.Meaning.{RuleBook}
use Rattle.picker.specs.Lowest.{lowest_picks}
use Rattle.shelf.specs.Table.{empty_shelf}
use Rattle.search.specs.declared.forgetting.Forgetting.TheVariants.{KeepAll}
use Rattle.search.specs.Calls.{report as report_of}
use Rattle.search.specs.Machine.{Bench, Machine}
use Rattle.session.specs.Solving.{solved, solved_row, SolvedTruly}
use Rattle.grammar.specs.Format as grammar
use Rattle.grammar.specs.Reading.{read_of}
use Rattle.sheet.specs.Format as sheets
use Rattle.sheet.specs.Reading.{Said, sheet_of}
use Rattle.repair.specs.declared.solution.Solution.{Solution}
use Rattle.repair.specs.declared.repair.Repair.{Repair}

-- a book, and all lessons kept
abbrev pub bench : RuleBook → Bench
bench b = record { book = b; forget = KeepAll }

-- the state after one run of 1,000,000 steps under these holds, from an empty shelf of 256 places,
-- the lowest open part picked first
abbrev pub end_state : RuleBook → List Mark → Machine
end_state b hs =
    solved (bench b) (lowest_picks b.n) (empty_shelf b.n MOST_TABLE_PLACES) hs MOST_BUDGET

-- a row of n codes that says nothing yet
abbrev pub blank : ℕ → Row
blank n = replicate n 0

-- the row at the end
abbrev pub end_row : RuleBook → List Mark → Row
end_row b hs = solved_row b.n (end_state b hs) (blank b.n)

-- What a search under holds returns: report and row are those of the search by definition; and they
-- are true: a choice that fits, or holds that leave none, and never "spent" where most_steps n is
-- at most 1,000,000 (so where n is at most 15).
pub record SolvedUnder (b : RuleBook) (hs : List Mark) (s : Solution) : Type 0 where
  pub report : s.report ≡ report_of (end_state b hs)
  pub row : vec_items s.row ≡ end_row b hs
  pub truly : SolvedTruly b hs MOST_BUDGET (blank b.n) (vec_items s.row) s.report

-- what a text reads as, for tables that take any book of the format
abbrev pub reads : List ℕ → Result RuleBook Fault
reads text = read_of MOST_TEXT_MARKS MOST_TEXT_RULES text

-- a sheet's text stands for names and holds, in the grammar
abbrev pub StandsFor : ℕ → Said → List ℕ → Type 0
StandsFor n s text =
    (names : List (List ℕ)) × (s.names ≡ sheets.placed 0 1 names)
    × sheets.Format n names s.holds text

-- THE PROMISE. The texts stand for a book and for a sheet of its parts, as they read and in the
-- grammar, and the search under the sheet's holds has this solution.
pub record Repaired (text sheet : List ℕ) (r : Repair) : Type 0 where
  pub book : RuleBook
  pub is_book : reads text ≡ Ok book
  pub is_sheet : sheet_of book.n sheet ≡ Ok r.sheet
  pub book_format : grammar.Format book text
  pub sheet_format : StandsFor book.n r.sheet sheet
  pub solved : SolvedUnder book r.sheet.holds r.solution

-- the first fault: the book's, else the sheet's
abbrev pub Refused : List ℕ → List ℕ → Fault → Type 0
Refused text sheet f =
    (reads text ≡ Err f) ⊎ ((b : RuleBook) × (reads text ≡ Ok b) × (sheet_of b.n sheet ≡ Err f))
