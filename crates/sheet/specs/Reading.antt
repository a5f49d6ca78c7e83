-- What a bench sheet reads as: the names of the parts and the holds, or the first fault.
use Rattle.std.specs.Prelude.{ℕ, ◌+◌, ◌-◌, Bool, if◌then◌else◌, not, ◌&&◌, ◌||◌, List, [], ◌∷◌, ◌++◌, length, Some, None, Ok, Err, codes, Option, Result, ◌==◌, nat_le, nat_lt}
use Rattle.std.specs.List.{list_all}
use Rattle.std.specs.Str.{bytes_eq}
use Rattle.parts.specs.declared.limits.TheConstants.{MOST_SHEET_BYTES, MOST_NAME_BYTES}
use Rattle.parts.specs.declared.fault.Fault.{Fault}
use Rattle.parts.specs.declared.mark.Mark.{Mark}
use Rattle.parts.specs.declared.refusal.Refusal.{Refusal}
use Rattle.parts.specs.declared.refusal.Refusal.TheVariants.{MalformedSheet, SheetOutOfOrder}
use Rattle.parts.specs.declared.side.Side.{Side}
use Rattle.parts.specs.declared.side.Side.TheVariants.{In, Out}
use Rattle.parts.specs.Distinct.{names as names_part, is_part}
use Rattle.text.specs.Cutting.{cut_at}
use Rattle.text.specs.Numbers.{number}
use Rattle.text.specs.Pieces.{Piece, lines}

-- a sheet so far: the names of the parts 1, 2 and so on, each as a piece of the sheet's text,
-- and the holds
pub record Said : Type 0 where
  pub names : List Piece
  pub holds : List Mark

-- a capital letter, a digit, or a hyphen (45)
abbrev pub is_name_byte : ℕ → Bool
is_name_byte b = (nat_le 65 b && nat_le b 90) || (nat_le 48 b && nat_le b 57) || b == 45

-- a name is 1 to 24 of these
abbrev pub is_name : List ℕ → Bool
is_name bytes =
    nat_le 1 (length bytes) && nat_le (length bytes) MOST_NAME_BYTES && list_all is_name_byte bytes

-- the side that a word says
abbrev pub side_of_word : List ℕ → Option Side
side_of_word w =
    if bytes_eq w (codes "in") then (Some In)
    else (if bytes_eq w (codes "out") then (Some Out) else None)

-- what one line says: a part's number and its name, or a hold
pub data Line : Type 0 where
  part : ℕ → Piece → Line
  hold : Mark → Line

-- the bytes before the first tab (9), and those after it
abbrev pub cut : List ℕ → Option (List ℕ × List ℕ)
cut bs = cut_at 9 bs

-- a refusal at a byte; a sheet has no rules, so the rule is 0
abbrev pub sheet_fault : Refusal → ℕ → Fault
sheet_fault refusal byte = record { refusal = refusal; byte = byte; rule = 0 }

-- a part by its number and its name, in which a line of so many bytes ends
abbrev pub part_by : ℕ → ℕ → Option ℕ → List ℕ → Option Line
part_by at len None name = None
part_by at len (Some k) name =
    if is_name name then (Some (part k (record { at = at + (len - length name); bytes = name })))
    else None

abbrev pub hold_by : Option ℕ → Option Side → Option Line
hold_by None s = None
hold_by (Some k) None = None
hold_by (Some k) (Some s) = Some (hold (record { part = k; side = s }))

-- a line of so many bytes, by its first field and what comes after each of its first two tabs
abbrev pub line_by : ℕ → ℕ → List ℕ → Option (List ℕ × List ℕ) → Option Line
line_by at len word None = None
line_by at len word (Some p) =
    if bytes_eq word (codes "part") then (part_by at len (number p.0) p.1)
    else (if bytes_eq word (codes "hold") then (hold_by (number p.0) (side_of_word p.1)) else None)

abbrev pub line_of : ℕ → List ℕ → Option Line
line_of at bytes =
    elim (cut bytes) [ None ↦ None | Some p ↦ line_by at (length bytes) p.0 (cut p.1) ]

-- a line is judged where it is ended: before the sheet's end
abbrev pub line_at : ℕ → Piece → Option Line
line_at end l = if nat_lt (l.at + length l.bytes) end then (line_of l.at l.bytes) else None

-- the line that starts at `at`, after what was said so far: the next of the n parts, before any
-- hold; or the hold of a part that is not yet held
abbrev pub added : ℕ → ℕ → Said → Line → Result Said Fault
added n at s (part k name) =
    if (k == length s.names + 1 && nat_le k n) && length s.holds == 0
    then (Ok (record s { names = s.names ++ name ∷ [] }))
    else (Err (sheet_fault SheetOutOfOrder at))
added n at s (hold m) =
    if is_part n m.part && not (names_part s.holds m.part)
    then (Ok (record s { holds = s.holds ++ m ∷ [] }))
    else (Err (sheet_fault SheetOutOfOrder at))

abbrev pub said_by : ℕ → ℕ → Said → Option Line → Result Said Fault
said_by n at s None = Err (sheet_fault MalformedSheet at)
said_by n at s (Some l) = added n at s l

-- the lines that are left of a sheet that ends at `end`
abbrev pub said_on : ℕ → ℕ → Said → List Piece → Result Said Fault
said_on n end s [] =
    if length s.names == n then (Ok s) else (Err (sheet_fault SheetOutOfOrder end))
said_on n end s (l ∷ ls) =
    elim (said_by n l.at s (line_at end l)) [ Err e ↦ Err e | Ok t ↦ said_on n end t ls ]

-- before the first line
abbrev pub nothing_said : Said
nothing_said = record { names = []; holds = [] }

-- what a sheet for n parts reads as
unfoldable pub sheet_of : ℕ → List ℕ → Result Said Fault
sheet_of n text =
    if nat_lt MOST_SHEET_BYTES (length text)
    then (Err (sheet_fault MalformedSheet MOST_SHEET_BYTES))
    else (said_on n (length text) nothing_said (lines 0 text))
