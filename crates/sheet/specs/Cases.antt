-- Worked cases of bench sheets: what each reads as, and what it must read as. What is wanted was
-- worked out by hand from the format, never by this definition.
use Rattle.std.specs.Prelude.{◌≡◌, ℕ, List, [], ◌∷◌, ◌++◌, map, replicate, Ok, Err, codes, Result}
use Rattle.parts.specs.declared.fault.Fault.{Fault}
use Rattle.parts.specs.declared.mark.Mark.{Mark}
use Rattle.parts.specs.declared.refusal.Refusal.TheVariants.{MalformedSheet, SheetOutOfOrder}
use Rattle.parts.specs.declared.side.Side.TheVariants.{In, Out}
use Rattle.text.specs.Pieces.{Piece}
use Rattle.sheet.specs.Reading.{Said, sheet_fault, sheet_of}

-- what a sheet reads as, and what it must read as
pub record Case : Type 0 where
  pub says : Result Said Fault
  pub wanted : Result Said Fault

infix 70 ◌↝◌
abbrev pub ◌↝◌ : Result Said Fault → Result Said Fault → Case
◌↝◌ s w = record { says = s; wanted = w }

-- a sheet for two parts
abbrev pub reads : List ℕ → Result Said Fault
reads text = sheet_of 2 text

abbrev pub i : ℕ → Mark
i p = record { part = p; side = In }

abbrev pub o : ℕ → Mark
o p = record { part = p; side = Out }

-- a name, and the byte where it stands
abbrev pub name : ℕ → List ℕ → Piece
name at bytes = record { at = at; bytes = bytes }

abbrev pub said : List Piece → List Mark → Result Said Fault
said names holds = Ok (record { names = names; holds = holds })

-- sheets that are accepted
abbrev pub accepted : List Case
accepted =
    reads (codes "part\t1\tLOOM-A\npart\t2\tLOOM-B\nhold\t2\tin\n")
    ↝ said (name 7 (codes "LOOM-A") ∷ name 21 (codes "LOOM-B") ∷ []) (i 2 ∷ [])
    ∷ reads (codes "part\t1\tA\npart\t2\tA\nhold\t2\tout\nhold\t1\tin\n")
    ↝ said (name 7 (codes "A") ∷ name 16 (codes "A") ∷ []) (o 2 ∷ i 1 ∷ [])
    ∷ sheet_of 1 (codes "part\t1\tABCDEFGHIJKLMNOPQRSTUVWX\n")
    ↝ said (name 7 (codes "ABCDEFGHIJKLMNOPQRSTUVWX") ∷ []) []
    ∷ []

-- lines that are malformed
abbrev pub lines : List Case
lines =
    reads (codes "part\t1\tlow\n") ↝ Err (sheet_fault MalformedSheet 0)
    ∷ reads (codes "part\t1\tA") ↝ Err (sheet_fault MalformedSheet 0)
    ∷ reads (codes "part\t1\tA\n\n") ↝ Err (sheet_fault MalformedSheet 9)
    ∷ reads (codes "part\t1\tA\nhold\t1\tleft\n") ↝ Err (sheet_fault MalformedSheet 9)
    ∷ reads (codes "part\t1\t\n") ↝ Err (sheet_fault MalformedSheet 0)
    ∷ reads (codes "part\t1\tABCDEFGHIJKLMNOPQRSTUVWXY\n") ↝ Err (sheet_fault MalformedSheet 0)
    ∷ reads (codes "part\t01\tA\n") ↝ Err (sheet_fault MalformedSheet 0)
    ∷ reads (codes "part\t1\tA\tB\n") ↝ Err (sheet_fault MalformedSheet 0)
    ∷ reads (codes "part\t1\n") ↝ Err (sheet_fault MalformedSheet 0)
    ∷ reads (codes "c a comment\n") ↝ Err (sheet_fault MalformedSheet 0)
    ∷ []

-- lines that are out of order, and parts without a name
abbrev pub order : List Case
order =
    reads (codes "part\t1\tA\npart\t3\tB\n") ↝ Err (sheet_fault SheetOutOfOrder 9)
    ∷ reads (codes "part\t1\tA\n") ↝ Err (sheet_fault SheetOutOfOrder 9)
    ∷ reads [] ↝ Err (sheet_fault SheetOutOfOrder 0)
    ∷ reads (codes "part\t1\tA\nhold\t1\tin\npart\t2\tB\n") ↝ Err (sheet_fault SheetOutOfOrder 19)
    ∷ reads (codes "part\t1\tA\nhold\t1\tin\n") ↝ Err (sheet_fault SheetOutOfOrder 19)
    ∷ reads (codes "part\t1\tA\npart\t2\tB\nhold\t3\tin\n") ↝ Err (sheet_fault SheetOutOfOrder 18)
    ∷ reads (codes "part\t1\tA\npart\t2\tB\nhold\t0\tin\n") ↝ Err (sheet_fault SheetOutOfOrder 18)
    ∷ reads (codes "part\t1\tA\npart\t2\tB\nhold\t1\tin\nhold\t1\tout\n")
    ↝ Err (sheet_fault SheetOutOfOrder 28)
    ∷ reads (codes "part\t1\tA\npart\t2\tB\npart\t3\tC\n") ↝ Err (sheet_fault SheetOutOfOrder 18)
    ∷ []

-- a sheet that is too long
abbrev pub lengths : List Case
lengths = reads (replicate 8001 65) ↝ Err (sheet_fault MalformedSheet 8000) ∷ []

-- all of them
abbrev pub table : List Case
table = accepted ++ lines ++ order ++ lengths

-- each sheet reads as the table says
abbrev pub CasesHold : Type 0
CasesHold = map (λ (c : Case). c.says) table ≡ map (λ (c : Case). c.wanted) table
