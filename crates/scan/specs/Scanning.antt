-- Rules under a settled row, and the first that is broken or pressing.
use Rattle.std.specs.Prelude.{ℕ, ◌+◌, List, [], ◌∷◌, Some, None, Option}
use Rattle.parts.specs.declared.mark.Mark.{Mark}
use Rattle.parts.specs.Rows.{Row}
use Rattle.book.specs.Meaning.{Rule}
use Rattle.search.specs.Trail.{State, broken, pressing, quiet}
use Rattle.search.specs.Machine.{state_of}
use Rattle.scan.specs.declared.Scanned.{Scanned}
use Rattle.scan.specs.declared.Scanned.TheVariants.{Broken, Pressing, Quiet}

-- rule i in its state, before what was found after it
abbrev pub before : ℕ → State → Scanned → Scanned
before i broken f = Broken i
before i (pressing m) (Broken j) = Broken j
before i (pressing m) (Pressing j x) = Pressing i m
before i (pressing m) Quiet = Pressing i m
before i quiet f = f

-- what a scan finds of rules that are numbered from i on
abbrev pub first_in : Row → ℕ → List (Option Rule) → Scanned
first_in row i [] = Quiet
first_in row i (o ∷ os) = before i (state_of row o) (first_in row (i + 1) os)

-- the broken rule that a scan found
abbrev pub broken_in : Scanned → Option ℕ
broken_in (Broken i) = Some i
broken_in (Pressing i m) = None
broken_in Quiet = None
