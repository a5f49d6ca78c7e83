-- The worked cases, as one table: what the definitions say, and what they must say.
use Rattle.std.specs.Prelude.{◌≡◌, ℕ, List, [], ◌∷◌, ◌++◌, map, Some, None, Ok, Err, codes, Option}
use Rattle.parts.specs.declared.refusal.Refusal.TheVariants.{SizeOutOfRange, MalformedRule, PartAboveN}
use Rattle.book.specs.Meaning.{Rule, RuleBook}
use Rattle.bays.specs.Meaning.{in_mark as i, out_mark as o}
use Rattle.text.specs.Pieces.{Piece}
use Rattle.grammar.specs.Reading.{fault_at}
use Rattle.search.specs.declared.forgetting.Forgetting.TheVariants.{KeepAll, Size, Relevance, Bounded, Both}
use Rattle.search.specs.declared.report.Answer.TheVariants.{NoneFits}
use Rattle.parts.specs.Rows.{Row}
use Rattle.search.specs.Machine.{Verdict, working, fits, none_fits, Places}
use Rattle.search.specs.Calls.{hold, run_for}
use Rattle.cases.specs.Seen.{Seen, text, bays, session, weight, sheet, repair, text_reads, bays_of, makes, weighs, sheet_reads, repairs}

-- what is seen, and what must be seen
pub record Case : Type 0 where
  pub says : Seen
  pub wanted : Seen

-- one case: what is seen, then what must be
infix 70 ◌↝◌
abbrev pub ◌↝◌ : Seen → Seen → Case
◌↝◌ t w = record { says = t; wanted = w }

-- a book of n parts
abbrev pub book : ℕ → List Rule → RuleBook
book n rs = record { n = n; rules = rs }

-- what is seen of a session
abbrev pub gave : Verdict → Row → ℕ → ℕ → Places → Seen
gave v r s t p = session (record { verdict = v; choice = r; steps = s; turns = t; shelf = p })

-- two places, then two empty ones
abbrev pub two : Option Row → Option Row → Places
two p q = p ∷ q ∷ None ∷ None ∷ []

-- four empty places
abbrev pub clear : Places
clear = two None None

-- 1 or 2 is in; where 1 is, 3 is; where 2 is, 3 is
abbrev pub chain : RuleBook
chain = book 3 ((i 1 ∷ i 2 ∷ []) ∷ (o 1 ∷ i 3 ∷ []) ∷ (o 2 ∷ i 3 ∷ []) ∷ [])

-- the text of these
abbrev pub chain_text : List ℕ
chain_text = codes "p cnf 3 3\n1 2 0\n-1 3 0\n-2 3 0\n"

-- a sheet that names the three parts and holds the third out
abbrev pub board_out : List ℕ
board_out = codes "part\t1\tLOOM-A\npart\t2\tLOOM-B\npart\t3\tBOARD-C\nhold\t3\tout\n"

-- every choice of the two parts breaks one of these
abbrev pub no_choice : RuleBook
no_choice = book 2 ((i 1 ∷ i 2 ∷ []) ∷ (i 1 ∷ o 2 ∷ []) ∷ (o 1 ∷ i 2 ∷ []) ∷ (o 1 ∷ o 2 ∷ []) ∷ [])

-- where part 1 is out, every choice of parts 3 and 4 breaks one of these
abbrev pub four : RuleBook
four =
    book 4
    ((i 1 ∷ i 3 ∷ i 4 ∷ []) ∷ (i 1 ∷ i 3 ∷ o 4 ∷ []) ∷ (i 1 ∷ o 3 ∷ i 4 ∷ [])
    ∷ (i 1 ∷ o 3 ∷ o 4 ∷ []) ∷ [])

-- the lesson "1 3" over four parts
abbrev pub l13 : Option Row
l13 = Some (1 ∷ 0 ∷ 1 ∷ 0 ∷ [])

-- the lesson "1" over four parts
abbrev pub l1 : Option Row
l1 = Some (1 ∷ 0 ∷ 0 ∷ 0 ∷ [])

-- after the second turn, which jumps over part 2: only part 1 is settled
abbrev pub after_two : Option Row → Seen
after_two first = gave working (1 ∷ 0 ∷ 0 ∷ 0 ∷ []) 7 2 (two first l1)

-- a name, and the byte of the sheet at which it stands
abbrev pub name : ℕ → List ℕ → Piece
name at bytes = record { at = at; bytes = bytes }

-- texts of books, and a book of bays
abbrev pub texts : List Case
texts =
    text_reads (codes "p cnf 0 0") ↝ text (Err (fault_at SizeOutOfRange 6 0))
    ∷ text_reads (codes "p cnf 120 0") ↝ text (Ok (book 120 []))
    ∷ text_reads (codes "p cnf 121 0") ↝ text (Err (fault_at SizeOutOfRange 6 0))
    ∷ text_reads (codes "p cnf 2 1\n1 3 0") ↝ text (Err (fault_at PartAboveN 12 1))
    ∷ text_reads (codes "p cnf 2 1\n1 -0 0") ↝ text (Err (fault_at MalformedRule 12 1))
    ∷ text_reads (codes "c wrist\np cnf 2 2\n -2 1 0\n\n0")
    ↝ text (Ok (book 2 ((o 2 ∷ i 1 ∷ []) ∷ [] ∷ [])))
    ∷ text_reads chain_text ↝ text (Ok chain)
    ∷ bays_of (2 ∷ 1 ∷ []) ↝ bays (book 3 ((i 1 ∷ i 2 ∷ []) ∷ (o 1 ∷ o 2 ∷ []) ∷ (i 3 ∷ []) ∷ []))
    ∷ []

-- verdicts, steps, turns and lessons, with all lessons kept
abbrev pub sessions : List Case
sessions =
    makes (book 1 ([] ∷ [])) KeepAll (run_for 9 ∷ []) ↝ gave (none_fits (0 ∷ [])) (0 ∷ []) 1 1 clear
    ∷ makes (book 1 ((i 1 ∷ []) ∷ [])) KeepAll (hold 1 2 ∷ run_for 9 ∷ [])
    ↝ gave (none_fits (2 ∷ [])) (0 ∷ []) 2 1 clear
    ∷ makes chain KeepAll (run_for 1000000 ∷ []) ↝ gave fits (2 ∷ 1 ∷ 1 ∷ []) 4 0 clear
    ∷ makes chain KeepAll (hold 3 2 ∷ hold 3 1 ∷ run_for 0 ∷ run_for 2 ∷ run_for 7 ∷ [])
    ↝ gave (none_fits (0 ∷ 0 ∷ 2 ∷ [])) (0 ∷ 0 ∷ 0 ∷ []) 4 1 clear
    ∷ makes no_choice KeepAll (run_for 1000000 ∷ [])
    ↝ gave (none_fits (0 ∷ 0 ∷ [])) (0 ∷ 0 ∷ []) 5 2 (two (Some (1 ∷ 0 ∷ [])) None)
    ∷ makes four KeepAll (run_for 5 ∷ []) ↝ gave working (2 ∷ 2 ∷ 1 ∷ 0 ∷ []) 5 1 (two l13 None)
    ∷ makes four KeepAll (run_for 7 ∷ []) ↝ after_two l13
    ∷ makes four KeepAll (run_for 1000000 ∷ []) ↝ gave fits (1 ∷ 2 ∷ 2 ∷ 2 ∷ []) 11 2 (two l13 l1)
    ∷ []

-- after the second turn the lesson "1 3" has two marks, one of them open: two forgetting rules keep
-- it, and three forget it
abbrev pub forgetting : List Case
forgetting =
    weighs four (run_for 7 ∷ []) 1 ↝ weight (Some (record { marks = 2; unsettled = 1 }))
    ∷ makes four (Relevance 1) (run_for 7 ∷ []) ↝ after_two l13
    ∷ makes four (Bounded 2) (run_for 7 ∷ []) ↝ after_two l13
    ∷ makes four (Relevance 0) (run_for 7 ∷ []) ↝ after_two None
    ∷ makes four (Size 1) (run_for 7 ∷ []) ↝ after_two None
    ∷ makes four (Both 1 1) (run_for 7 ∷ []) ↝ after_two None
    ∷ []

-- a sheet, and what is answered and printed of the book under its hold
abbrev pub sheets : List Case
sheets =
    sheet_reads 3 board_out
    ↝ sheet
    (Ok (record {
      names = name 7 (codes "LOOM-A") ∷ name 21 (codes "LOOM-B")
          ∷ name 35 (codes "BOARD-C") ∷ [];
      holds = o 3 ∷ [];
    }))
    ∷ repairs chain_text board_out
    ↝ repair
    (Ok (record {
      report = record { answer = NoneFits; steps = 4; turns = 1 };
      row = 0 ∷ 0 ∷ 2
          ∷ [];
      lines = codes "held\t3\tout\tBOARD-C\n";
    }))
    ∷ []

-- all of them
abbrev pub table : List Case
table = texts ++ sessions ++ forgetting ++ sheets

-- each makes what the table says
abbrev pub CasesHold : Type 0
CasesHold = map (λ (c : Case). c.says) table ≡ map (λ (c : Case). c.wanted) table
