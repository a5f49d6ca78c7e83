-- The number of each refusal, the one place where the list's numbers stand; and how refusals and
-- faults are printed.
use Rattle.std.specs.Prelude.{ℕ, List, ◌∷◌, ◌++◌, decimal}
use Rattle.parts.specs.declared.fault.Fault.{Fault}
use Rattle.parts.specs.declared.refusal.Refusal.{Refusal}
use Rattle.parts.specs.declared.refusal.Refusal.TheVariants.{TextTooLong, NoHead, SizeOutOfRange, MalformedRule, PartAboveN, PartNamedTwice, TableFull, RuleCount}
use Rattle.parts.specs.declared.refusal.Refusal.TheVariants.{NotWritable, NotABook, JoinPartsDiffer, JoinTooManyRules, NotAShelf, NotAPicker}
use Rattle.parts.specs.declared.refusal.Refusal.TheVariants.{OpenPartsDiffer, ForgettingOutOfRange, PartOutOfRange, NoSide, AlreadyHeld, NotHeld, BudgetOutOfRange, StepsOutOfRange, RowLength, NoSuchVerdict, ShelfOutOfRange}
use Rattle.parts.specs.declared.refusal.Refusal.TheVariants.{MalformedSheet, SheetOutOfOrder}

abbrev pub number_of : Refusal → ℕ
number_of TextTooLong = 1
number_of NoHead = 2
number_of SizeOutOfRange = 3
number_of MalformedRule = 4
number_of PartAboveN = 5
number_of PartNamedTwice = 6
number_of TableFull = 7
number_of RuleCount = 8
number_of NotWritable = 9
number_of NotABook = 10
number_of JoinPartsDiffer = 11
number_of JoinTooManyRules = 12
number_of NotAShelf = 13
number_of NotAPicker = 14
number_of OpenPartsDiffer = 15
number_of ForgettingOutOfRange = 16
number_of PartOutOfRange = 17
number_of NoSide = 18
number_of AlreadyHeld = 19
number_of NotHeld = 20
number_of BudgetOutOfRange = 21
number_of StepsOutOfRange = 22
number_of RowLength = 23
number_of NoSuchVerdict = 24
number_of ShelfOutOfRange = 25
number_of MalformedSheet = 26
number_of SheetOutOfOrder = 27

-- a refusal is printed as its number
abbrev pub refusal_text : Refusal → List ℕ
refusal_text r = decimal (number_of r)

-- a fault is printed as number, byte and rule, parted by tabs (byte 9)
abbrev pub fault_text : Fault → List ℕ
fault_text f = refusal_text f.refusal ++ (9 ∷ decimal f.byte ++ (9 ∷ decimal f.rule))
