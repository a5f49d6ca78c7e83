-- Worked cases of texts: what each reads as, and what it must read as. What is wanted was worked
-- out by hand from the format, never by this definition.
use Rattle.std.specs.Prelude.{◌≡◌, ℕ, List, [], ◌∷◌, ◌++◌, map, replicate, Ok, Err, codes, Result}
use Rattle.parts.specs.declared.fault.Fault.{Fault}
use Rattle.parts.specs.declared.limits.TheConstants.{MOST_TEXT_MARKS, MOST_TEXT_RULES}
use Rattle.parts.specs.declared.mark.Mark.{Mark}
use Rattle.parts.specs.declared.refusal.Refusal.TheVariants.{TextTooLong, NoHead, SizeOutOfRange, MalformedRule, PartAboveN, PartNamedTwice, TableFull, RuleCount}
use Rattle.parts.specs.declared.side.Side.TheVariants.{In, Out}
use Rattle.book.specs.Meaning.{Rule, RuleBook}
use Rattle.grammar.specs.Reading.{fault_at, read_of}

-- what a text reads as, and what it must read as
pub record Case : Type 0 where
  pub says : Result RuleBook Fault
  pub wanted : Result RuleBook Fault

infix 70 ◌↝◌
abbrev pub ◌↝◌ : Result RuleBook Fault → Result RuleBook Fault → Case
◌↝◌ s w = record { says = s; wanted = w }

-- for tables that take any book
abbrev pub reads : List ℕ → Result RuleBook Fault
reads text = read_of MOST_TEXT_MARKS MOST_TEXT_RULES text

abbrev pub i : ℕ → Mark
i p = record { part = p; side = In }

abbrev pub o : ℕ → Mark
o p = record { part = p; side = Out }

abbrev pub book : ℕ → List Rule → Result RuleBook Fault
book n rules = Ok (record { n = n; rules = rules })

-- texts that are accepted
abbrev pub accepted : List Case
accepted =
    reads (codes "c two looms, one of which must be in\np cnf 3 2\n\n1 2 0\n  -1   3\t0\n")
    ↝ book 3 ((i 1 ∷ i 2 ∷ []) ∷ (o 1 ∷ i 3 ∷ []) ∷ [])
    ∷ reads (codes "p cnf 120 0") ↝ book 120 []
    ∷ reads (codes "p cnf 1 1\n0") ↝ book 1 ([] ∷ [])
    ∷ reads (codes " p\tcnf  2 1 \nc 0\n2 0\nc") ↝ book 2 ((i 2 ∷ []) ∷ [])
    ∷ read_of 2 1 (codes "p cnf 2 1\n2 -1 0") ↝ book 2 ((i 2 ∷ o 1 ∷ []) ∷ [])
    ∷ []

-- heads that are refused
abbrev pub heads : List Case
heads =
    reads [] ↝ Err (fault_at NoHead 0 0)
    ∷ reads (codes "c\n\n") ↝ Err (fault_at NoHead 3 0)
    ∷ reads (codes "p cnf 3\n") ↝ Err (fault_at NoHead 0 0)
    ∷ reads (codes "c x\n p dnf 3 1\n") ↝ Err (fault_at NoHead 4 0)
    ∷ reads (codes "p cnf 3 2 1\n") ↝ Err (fault_at NoHead 0 0)
    ∷ reads (codes "p cnf 03 2\n") ↝ Err (fault_at NoHead 0 0)
    ∷ reads (codes "p cnf 0 0") ↝ Err (fault_at SizeOutOfRange 6 0)
    ∷ reads (codes "p cnf 121 0") ↝ Err (fault_at SizeOutOfRange 6 0)
    ∷ reads (codes "p cnf 1 4001") ↝ Err (fault_at SizeOutOfRange 8 0)
    ∷ []

-- rule lines that are refused
abbrev pub rule_lines : List Case
rule_lines =
    reads (codes "p cnf 2 1\n1 -0 0") ↝ Err (fault_at MalformedRule 12 1)
    ∷ reads (codes "p cnf 2 1\n1 2") ↝ Err (fault_at MalformedRule 13 1)
    ∷ reads (codes "p cnf 2 2\n1 2\n0") ↝ Err (fault_at MalformedRule 13 1)
    ∷ reads (codes "p cnf 2 1\n1 0 2") ↝ Err (fault_at MalformedRule 14 1)
    ∷ reads (codes "p cnf 2 1\n+1 0") ↝ Err (fault_at MalformedRule 10 1)
    ∷ reads (codes "p cnf 2 1\n00") ↝ Err (fault_at MalformedRule 10 1)
    ∷ reads (codes "p cnf 2 1\n123456 0") ↝ Err (fault_at MalformedRule 10 1)
    ∷ reads (codes "p cnf 2 1\n1 0\r\n") ↝ Err (fault_at MalformedRule 12 1)
    ∷ reads (codes "p cnf 2 1\n c 0") ↝ Err (fault_at MalformedRule 11 1)
    ∷ reads (codes "p cnf 2 1\n1 3 0") ↝ Err (fault_at PartAboveN 12 1)
    ∷ reads (codes "p cnf 2 1\n99999 0") ↝ Err (fault_at PartAboveN 10 1)
    ∷ reads (codes "p cnf 2 1\n1 -1 0") ↝ Err (fault_at PartNamedTwice 12 1)
    ∷ []

-- books for which a table has no room, and the wrong number of rules;
-- at one field the refusals are tried in the order 8, 4, 5, 6, 7
abbrev pub counts : List Case
counts =
    read_of 1 1 (codes "p cnf 2 1\n1 2 0") ↝ Err (fault_at TableFull 12 1)
    ∷ read_of 2 1 (codes "p cnf 2 2\n1 0\n0") ↝ Err (fault_at TableFull 14 2)
    ∷ read_of 1 1 (codes "p cnf 2 1\n1 1 0") ↝ Err (fault_at PartNamedTwice 12 1)
    ∷ read_of 1 1 (codes "p cnf 2 2\n1 0\n3 0") ↝ Err (fault_at PartAboveN 14 2)
    ∷ read_of 1 1 (codes "p cnf 2 2\n1 0\nx 0") ↝ Err (fault_at MalformedRule 14 2)
    ∷ reads (codes "p cnf 2 1\n1 0\n2 0") ↝ Err (fault_at RuleCount 14 2)
    ∷ reads (codes "p cnf 2 1\n1 0\n x") ↝ Err (fault_at RuleCount 15 2)
    ∷ reads (codes "p cnf 2 2\n1 0\n") ↝ Err (fault_at RuleCount 14 2)
    ∷ reads (codes "p cnf 2 2") ↝ Err (fault_at RuleCount 9 1)
    ∷ []

-- a text that is too long
abbrev pub lengths : List Case
lengths = reads (replicate 60001 120) ↝ Err (fault_at TextTooLong 60000 0) ∷ []

-- all of them
abbrev pub table : List Case
table = accepted ++ heads ++ rule_lines ++ counts ++ lengths

-- each text reads as the table says
abbrev pub CasesHold : Type 0
CasesHold = map (λ (c : Case). c.says) table ≡ map (λ (c : Case). c.wanted) table
