-- The laws above the definition of reading a bench sheet.
use Rattle.std.specs.Prelude.{◌≡◌, ◌≢◌, ℕ, ◌≤◌, Bool, true, false, IsTrue, List, [], ◌∷◌, ◌++◌, length, Ok, Err, IsErr}
use Rattle.std.specs.List.{AllByRecursion, list_all}
use Rattle.parts.specs.declared.fault.Fault.{Fault}
use Rattle.parts.specs.declared.limits.TheConstants.{MOST_SHEET_BYTES}
use Rattle.parts.specs.declared.mark.Mark.{Mark}
use Rattle.parts.specs.declared.refusal.Refusal.{Refusal}
use Rattle.parts.specs.declared.refusal.Refusal.TheVariants.{MalformedSheet, SheetOutOfOrder}
use Rattle.parts.specs.Distinct.{is_distinct}
use Rattle.text.specs.Layout.{Inline}
use Rattle.sheet.specs.Reading.{Said, is_name, sheet_of}
use Rattle.sheet.specs.Format.{Format, placed, sheet_text}

-- A sheet is accepted with these names and holds exactly if it is their one text; and each name
-- comes with the place where it stands.
pub record AcceptsTheSheet (n : ℕ) (text : List ℕ) : Type 0 where
  pub only : (s : Said) → sheet_of n text ≡ Ok s →
      (names : List (List ℕ)) × (s.names ≡ placed 0 1 names) × Format n names s.holds text
  pub each : (names : List (List ℕ)) (holds : List Mark) → Format n names holds text →
      sheet_of n text ≡ Ok (record { names = placed 0 1 names; holds = holds })

abbrev pub ReadingIsTheSheet : Type 0
ReadingIsTheSheet = (n : ℕ) (text : List ℕ) → AcceptsTheSheet n text

-- What a refusal names: the first byte too many, a line with its line feed, a last line that has
-- none, or the sheet's end.
pub data Named : Type 0 where
  excess : Named
  line : Named
  last_line : Named
  sheet_end : Named

-- which refusal names which
abbrev pub may_name : Refusal → Named → Bool
may_name MalformedSheet excess = true
may_name MalformedSheet line = true
may_name MalformedSheet last_line = true
may_name SheetOutOfOrder line = true
may_name SheetOutOfOrder sheet_end = true
may_name why named = false

-- these bytes, after those before, are what is named
abbrev pub IsNamed : Named → List ℕ → List ℕ → Type 0
IsNamed excess before bytes = (length before ≡ MOST_SHEET_BYTES) × (length bytes ≡ 1)
IsNamed line before bytes =
    (l : List ℕ) × (bytes ≡ l ++ 10 ∷ []) × AllByRecursion Inline l
IsNamed last_line before bytes = (bytes ≢ []) × AllByRecursion Inline bytes
IsNamed sheet_end before bytes = bytes ≡ []

-- what may follow, so that what is named stays as it is
abbrev pub MayFollow : Named → List ℕ → Type 0
MayFollow excess rest = Unit {0}
MayFollow line rest = Unit {0}
MayFollow last_line rest = rest ≡ []
MayFollow sheet_end rest = rest ≡ []

-- These bytes begin a sheet for n parts: they are the lines of names and holds that may stand so.
pub record BeginsSheet (n : ℕ) (text : List ℕ) : Type 0 where
  pub names : List (List ℕ)
  pub holds : List Mark
  pub is_text : text ≡ sheet_text names holds
  pub few : length names ≤ n
  pub names_are : IsTrue (list_all is_name names)
  pub holds_are : IsTrue (is_distinct n holds)

-- A fault is the first: with what it names no sheet begins, but with what stands before it one
-- does.
pub record FaultIsFirst (n : ℕ) (text : List ℕ) (f : Fault) : Type 0 where
  -- the sheet is cut before and after what is named
  pub before : List ℕ
  pub bytes : List ℕ
  pub after : List ℕ
  pub is_text : text ≡ before ++ (bytes ++ after)
  pub byte : f.byte ≡ length before
  pub rule : f.rule ≡ 0
  pub named : Named
  pub allowed : IsTrue (may_name f.refusal named)
  pub is_named : IsNamed named before bytes
  pub ends_there : MayFollow named after
  -- no sheet that begins so, up to and with what is named, is accepted
  pub refused : (rest : List ℕ) → MayFollow named rest →
      IsErr (sheet_of n (before ++ (bytes ++ rest)))
  -- and each line before it was accepted; only the length is judged before all else
  pub passed : named ≢ excess → BeginsSheet n before

abbrev pub RefusingIsFirst : Type 0
RefusingIsFirst =
    (n : ℕ) (text : List ℕ) (f : Fault) → sheet_of n text ≡ Err f → FaultIsFirst n text f
