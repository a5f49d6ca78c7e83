-- What the definitions say of a text, of bays, of a session and of a bench sheet, as one type.
use Rattle.std.specs.Prelude.{ℕ, List, length, Some, None, Ok, Err, Option, Result}
use Rattle.parts.specs.Lists.{at_place}
use Rattle.parts.specs.Rows.{Row}
use Rattle.parts.specs.declared.fault.Fault.{Fault}
use Rattle.book.specs.Meaning.{Rule, RuleBook}
use Rattle.bays.specs.Meaning.{bay_book}
use Rattle.picker.specs.Lowest.{lowest_picks}
use Rattle.shelf.specs.Table.{empty_shelf}
use Rattle.search.specs.declared.forgetting.Forgetting.{Forgetting}
use Rattle.search.specs.declared.forgetting.Forgetting.TheVariants.{KeepAll}
use Rattle.search.specs.declared.report.Report.{Report}
use Rattle.search.specs.Trail.{row}
use Rattle.search.specs.Machine.{Bench, Machine, Verdict, Places, lesson, open_count}
use Rattle.search.specs.Calls.{Call, calls, opened, report}
use Rattle.sheet.specs.Reading.{Said, sheet_of}
use Rattle.repair.specs.Promise.{reads, end_state, end_row}
use Rattle.repair.specs.Printing.{parts_text, word_text}

-- what is seen of a session after some calls
pub record After : Type 0 where
  pub verdict : Verdict
  pub choice : Row
  pub steps : ℕ
  pub turns : ℕ
  pub shelf : Places

-- how many marks a lesson has, and how many of them are open
pub record Weight : Type 0 where
  pub marks : ℕ
  pub unsettled : ℕ

-- what a search under the holds of a bench sheet ends with, and the printed lines of the parts that
-- its row names
pub record End : Type 0 where
  pub report : Report
  pub row : Row
  pub lines : List ℕ

-- what is seen of any of these
pub data Seen : Type 0 where
  text : Result RuleBook Fault → Seen
  bays : RuleBook → Seen
  session : After → Seen
  weight : Option Weight → Seen
  sheet : Result Said Fault → Seen
  repair : Result End Fault → Seen

-- what a text reads as, for full tables
abbrev pub text_reads : List ℕ → Seen
text_reads bytes = text (reads bytes)

-- the book of bays of these widths
abbrev pub bays_of : List ℕ → Seen
bays_of widths = bays (bay_book widths)

-- a bench, and its session after calls, where the picker puts the lowest open part out and the
-- shelf has four empty places
abbrev pub bench : RuleBook → Forgetting → Bench
bench b f = record { book = b; forget = f }

abbrev pub after : Bench → List Call → Machine
after b cs = calls b cs (opened (lowest_picks b.book.n) (empty_shelf b.book.n 4))

-- what is seen of a session in some state
abbrev pub seen : Bench → Machine → After
seen b m =
    record {
      verdict = m.verdict;
      choice = row b.book.n m.trail;
      steps = m.steps;
      turns = m.turns;
      shelf = m.shelf.rows;
    }

-- what is seen after calls, under a forgetting rule
abbrev pub makes : RuleBook → Forgetting → List Call → Seen
makes b f cs = session (seen (bench b f) (after (bench b f) cs))

-- the weight of a lesson against the settled row
abbrev pub weight_of : Row → Option Rule → Option Weight
weight_of now None = None
weight_of now (Some r) = Some (record { marks = length r; unsettled = open_count now r })

-- the weight of the lesson at a place, after calls
abbrev pub weighs : RuleBook → List Call → ℕ → Seen
weighs b cs place =
    let m : Machine = after (bench b KeepAll) cs in
    weight (weight_of (row b.n m.trail) (lesson (at_place m.shelf.rows place)))

-- what a sheet for n parts reads as
abbrev pub sheet_reads : ℕ → List ℕ → Seen
sheet_reads n bytes = sheet (sheet_of n bytes)

-- how a search under the holds of a sheet ends
abbrev pub end_by : Report → Row → Said → End
end_by r named s =
    record { report = r; row = named; lines = parts_text (word_text r.answer) named 0 s.names }

-- the search under a sheet, or the sheet's fault
abbrev pub repaired_on : RuleBook → Result Said Fault → Result End Fault
repaired_on b (Err e) = Err e
repaired_on b (Ok s) = Ok (end_by (report (end_state b s.holds)) (end_row b s.holds) s)

-- the same from what a book's text reads as
abbrev pub repaired : Result RuleBook Fault → List ℕ → Result End Fault
repaired (Err e) bytes = Err e
repaired (Ok b) bytes = repaired_on b (sheet_of b.n bytes)

-- from the texts of a book and of a sheet
abbrev pub repairs : List ℕ → List ℕ → Seen
repairs book bytes = repair (repaired (reads book) bytes)
