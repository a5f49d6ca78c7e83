-- The laws above the definitions of reading and writing.
use Rattle.std.specs.Prelude.{◌≡◌, ◌≢◌, ℕ, ◌≤◌, Bool, true, false, IsTrue, List, [], ◌++◌, length, Ok, Err, IsOk, IsErr}
use Rattle.std.specs.List.{AllByRecursion}
use Rattle.parts.specs.declared.fault.Fault.{Fault}
use Rattle.parts.specs.declared.limits.TheConstants.{MOST_TEXT_BYTES, MOST_TEXT_MARKS, MOST_TEXT_RULES}
use Rattle.parts.specs.declared.refusal.Refusal.{Refusal}
use Rattle.parts.specs.declared.refusal.Refusal.TheVariants.{TextTooLong, NoHead, SizeOutOfRange, MalformedRule, PartAboveN, PartNamedTwice, TableFull, RuleCount}
use Rattle.text.specs.Layout.{Inline, Field, EndsWord, EndsLine, StartsField, StartsLine}
use Rattle.book.specs.Meaning.{RuleBook, Sound, count_marks}
use Rattle.grammar.specs.Reading.{read_of, lines_read}
use Rattle.grammar.specs.Writing.{written_of}
use Rattle.grammar.specs.Format.{Format}

-- tables of so many marks and ends have room for all of the book
abbrev pub HasRoom : ℕ → ℕ → RuleBook → Type 0
HasRoom marks ends b = (count_marks b.rules ≤ marks) × (length b.rules ≤ ends)

-- A text is accepted as a book exactly if the format allows it for that book
-- and the tables have room for it.
pub record AcceptsTheFormat (marks ends : ℕ) (text : List ℕ) : Type 0 where
  pub only : (b : RuleBook) → read_of marks ends text ≡ Ok b → Format b text × HasRoom marks ends b
  pub each : (b : RuleBook) → Format b text → HasRoom marks ends b → read_of marks ends text ≡ Ok b

abbrev pub ReadingIsTheFormat : Type 0
ReadingIsTheFormat = (marks ends : ℕ) (text : List ℕ) → AcceptsTheFormat marks ends text

-- What is written of a book reads back as that book, wherever the tables have room for it.
abbrev pub ReadsBack : RuleBook → List ℕ → Type 0
ReadsBack b text = (marks ends : ℕ) → HasRoom marks ends b → read_of marks ends text ≡ Ok b

abbrev pub WritingReadsBack : Type 0
WritingReadsBack =
    (buffer : ℕ) (b : RuleBook) (text : List ℕ) →
    Sound b → written_of buffer b ≡ Ok text → ReadsBack b text

-- What a refusal names: the first byte too many, a field, a line, a line's end, or the text's end.
pub data Named : Type 0 where
  excess : Named
  field : Named
  line : Named
  line_end : Named
  text_end : Named

-- which refusal names which
abbrev pub may_name : Refusal → Named → Bool
may_name TextTooLong excess = true
may_name NoHead line = true
may_name NoHead text_end = true
may_name SizeOutOfRange field = true
may_name MalformedRule field = true
may_name MalformedRule line_end = true
may_name PartAboveN field = true
may_name PartNamedTwice field = true
may_name TableFull field = true
may_name RuleCount field = true
may_name RuleCount text_end = true
may_name why named = false

-- these bytes, after those before, are what is named: a whole field, or a line from its start
abbrev pub IsNamed : Named → List ℕ → List ℕ → Type 0
IsNamed excess before bytes = (length before ≡ MOST_TEXT_BYTES) × (length bytes ≡ 1)
IsNamed field before bytes = StartsField before × Field bytes
IsNamed line before bytes = StartsLine before × AllByRecursion Inline bytes
IsNamed line_end before bytes = bytes ≡ []
IsNamed text_end before bytes = bytes ≡ []

-- what may follow, so that what is named stays as it is
abbrev pub MayFollow : Named → List ℕ → Type 0
MayFollow excess rest = Unit {0}
MayFollow field rest = EndsWord rest
MayFollow line rest = EndsLine rest
MayFollow line_end rest = EndsLine rest
MayFollow text_end rest = rest ≡ []

-- what may stand in its place, so that the fields before it stay as they are
abbrev pub MayReplace : Named → List ℕ → Type 0
MayReplace excess rest = Unit {0}
MayReplace field rest = Unit {0}
MayReplace line rest = Unit {0}
MayReplace line_end rest = EndsWord rest
MayReplace text_end rest = EndsWord rest

-- A fault is the first: where it stands, no text goes on to a book, and up to there one does.
pub record FaultIsFirst (marks ends : ℕ) (text : List ℕ) (f : Fault) : Type 0 where
  -- the text is cut before and after what is named
  pub before : List ℕ
  pub bytes : List ℕ
  pub after : List ℕ
  pub is_text : text ≡ before ++ (bytes ++ after)
  pub byte : f.byte ≡ length before
  pub named : Named
  pub allowed : IsTrue (may_name f.refusal named)
  pub is_named : IsNamed named before bytes
  pub ends_there : MayFollow named after
  -- no text that begins so, up to and with what is named, is accepted
  pub refused : (rest : List ℕ) → MayFollow named rest →
      IsErr (read_of marks ends (before ++ (bytes ++ rest)))
  -- and what stands before it passed: some text that begins with it reads as a book, in tables
  -- that take any book; only the length is judged before all else, and so left out here
  pub passed : named ≢ excess → (rest : List ℕ) × MayReplace named rest
      × IsOk (lines_read MOST_TEXT_MARKS MOST_TEXT_RULES (before ++ rest))

-- each fault of a reading is
abbrev pub FaultsAreFirst : ℕ → ℕ → List ℕ → Type 0
FaultsAreFirst marks ends text =
    (f : Fault) → read_of marks ends text ≡ Err f → FaultIsFirst marks ends text f

abbrev pub RefusingIsFirst : Type 0
RefusingIsFirst = (marks ends : ℕ) (text : List ℕ) → FaultsAreFirst marks ends text
