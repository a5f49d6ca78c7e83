-- What a text reads as: a book's n and rules, or the first fault.
use Rattle.std.specs.Prelude.{ℕ, ◌+◌, Bool, if◌then◌else◌, not, ◌&&◌, ◌||◌, List, [], ◌∷◌, ◌++◌, length, ℤ, Some, None, Ok, Err, codes, Option, Result, ◌==◌, nat_le, nat_lt, unsigned_abs}
use Rattle.std.specs.Str.{bytes_eq}
use Rattle.parts.specs.declared.limits.TheConstants.{MOST_PARTS, MOST_TEXT_RULES, MOST_TEXT_BYTES}
use Rattle.parts.specs.declared.fault.Fault.{Fault}
use Rattle.parts.specs.declared.refusal.Refusal.{Refusal}
use Rattle.parts.specs.declared.refusal.Refusal.TheVariants.{TextTooLong, NoHead, SizeOutOfRange, MalformedRule, PartAboveN, PartNamedTwice, TableFull, RuleCount}
use Rattle.parts.specs.Distinct.{names}
use Rattle.parts.specs.Marks.{mark_from}
use Rattle.text.specs.Pieces.{Piece, lines, fields}
use Rattle.text.specs.Numbers.{number, signed}
use Rattle.book.specs.Meaning.{Rule, RuleBook}
use Rattle.book.specs.Tables.{marks_limit}
use Rattle.grammar.specs.declared.RuleStart.{RuleStart}
use Rattle.grammar.specs.declared.Room.{Room}
use Rattle.grammar.specs.declared.Size.{Size}

-- the fields of a line that count: none where the line's first byte is c (99)
abbrev pub counted_fields : ℕ → List ℕ → List Piece
counted_fields at [] = []
counted_fields at (b ∷ bs) = if b == 99 then [] else (fields at (b ∷ bs))

abbrev pub counted : Piece → List Piece
counted l = counted_fields l.at l.bytes

-- a refusal at a byte, in a rule
abbrev pub fault_at : Refusal → ℕ → ℕ → Fault
fault_at refusal byte rule = record { refusal = refusal; byte = byte; rule = rule }

-- no entry is left: for the rule, at its first field, or for one more mark
abbrev pub is_table_full : Room → RuleStart → Rule → ℤ → Bool
is_table_full room start seen z =
    (length seen == 0 && nat_lt room.ends start.rule)
    || (not (unsigned_abs z == 0) && nat_le (marks_limit room.marks) (start.used + length seen))

-- a field after the marks `seen` of its rule: its number, or the first refusal that applies there
abbrev pub number_or_fault : Room → RuleStart → Rule → ℕ → Option ℤ → Result ℤ Fault
number_or_fault room start seen at None = Err (fault_at MalformedRule at start.rule)
number_or_fault room start seen at (Some z) =
    if nat_lt room.n (unsigned_abs z) then (Err (fault_at PartAboveN at start.rule))
    else (if names seen (unsigned_abs z) then (Err (fault_at PartNamedTwice at start.rule))
    else (if is_table_full room start seen z then (Err (fault_at TableFull at start.rule))
    else (Ok z)))

-- nothing may follow a rule's 0 on its line
abbrev pub ended_rule : RuleStart → Rule → List Piece → Result Rule Fault
ended_rule start seen [] = Ok seen
ended_rule start seen (f ∷ fs) = Err (fault_at MalformedRule f.at start.rule)

-- the fields of a rule line, marks and then 0, after the marks `seen`
abbrev pub rule_of : Room → RuleStart → Rule → List Piece → Result Rule Fault
rule_of room start seen [] = Err (fault_at MalformedRule start.end start.rule)
rule_of room start seen (f ∷ fs) =
    elim (number_or_fault room start seen f.at (signed f.bytes)) [
      | Err e ↦ Err e
      | Ok z ↦
          if unsigned_abs z == 0 then (ended_rule start seen fs)
          else (rule_of room start (seen ++ mark_from z ∷ []) fs)
    ]

-- the rule before those of the lines after it
abbrev pub with_rule : Rule → Result (List Rule) Fault → Result (List Rule) Fault
with_rule r (Err e) = Err e
with_rule r (Ok rs) = Ok (r ∷ rs)

-- where the line of a rule starts, after `done` rules with `used` marks
abbrev pub rule_start : ℕ → ℕ → Piece → RuleStart
rule_start done used l = record { rule = done + 1; used = used; end = l.at + length l.bytes }

-- the lines after the head, of a text that ends at `end`:
-- `done` of m rules are read, with `used` marks
abbrev pub rules_of : Room → ℕ → ℕ → ℕ → ℕ → List Piece → Result (List Rule) Fault
rules_of room end m done used [] =
    if nat_lt done m then (Err (fault_at RuleCount end (done + 1))) else (Ok [])
rules_of room end m done used (l ∷ ls) =
    elim (counted l) [
      | [] ↦ rules_of room end m done used ls
      | f ∷ fs ↦
          if nat_le m done then (Err (fault_at RuleCount f.at (done + 1)))
          else (elim (rule_of room (rule_start done used l) [] (f ∷ fs)) [
            | Err e ↦ Err e
            | Ok r ↦ with_rule r (rules_of room end m (done + 1) (used + length r) ls)
          ])
    ]

-- the book's size by the two numbers of its head, whose line starts at `from`
abbrev pub size_of : ℕ → ℕ → ℕ → Option ℕ → Option ℕ → Result Size Fault
size_of from at_n at_m None m = Err (fault_at NoHead from 0)
size_of from at_n at_m (Some n) None = Err (fault_at NoHead from 0)
size_of from at_n at_m (Some n) (Some m) =
    if n == 0 || nat_lt MOST_PARTS n then (Err (fault_at SizeOutOfRange at_n 0))
    else (if nat_lt MOST_TEXT_RULES m then (Err (fault_at SizeOutOfRange at_m 0))
    else (Ok (record { n = n; m = m })))

-- the head "p cnf N M" on the line that starts at `from`
abbrev pub head_of : ℕ → List Piece → Result Size Fault
head_of from [] = Err (fault_at NoHead from 0)
head_of from (p ∷ []) = Err (fault_at NoHead from 0)
head_of from (p ∷ cnf ∷ []) = Err (fault_at NoHead from 0)
head_of from (p ∷ cnf ∷ n ∷ []) = Err (fault_at NoHead from 0)
head_of from (p ∷ cnf ∷ n ∷ m ∷ []) =
    if bytes_eq p.bytes (codes "p") && bytes_eq cnf.bytes (codes "cnf")
    then (size_of from n.at m.at (number n.bytes) (number m.bytes))
    else (Err (fault_at NoHead from 0))
head_of from (p ∷ cnf ∷ n ∷ m ∷ f ∷ fs) = Err (fault_at NoHead from 0)

-- the book of n parts and these rules
abbrev pub book_of : ℕ → Result (List Rule) Fault → Result RuleBook Fault
book_of n (Err e) = Err e
book_of n (Ok rs) = Ok (record { n = n; rules = rs })

-- the lines of a text that ends at `end`, for tables of so many marks and ends:
-- the head is the first line that counts
abbrev pub from_head : ℕ → ℕ → ℕ → List Piece → Result RuleBook Fault
from_head marks ends end [] = Err (fault_at NoHead end 0)
from_head marks ends end (l ∷ ls) =
    elim (counted l) [
      | [] ↦ from_head marks ends end ls
      | f ∷ fs ↦
          elim (head_of l.at (f ∷ fs)) [
            | Err e ↦ Err e
            | Ok size ↦
                let room : Room = record { n = size.n; marks = marks; ends = ends } in
                book_of size.n (rules_of room end size.m 0 0 ls)
          ]
    ]

-- what a text of any length reads as
abbrev pub lines_read : ℕ → ℕ → List ℕ → Result RuleBook Fault
lines_read marks ends text = from_head marks ends (length text) (lines 0 text)

-- what a text reads as, where the tables have so many entries
unfoldable pub read_of : ℕ → ℕ → List ℕ → Result RuleBook Fault
read_of marks ends text =
    if nat_lt MOST_TEXT_BYTES (length text)
    then (Err (fault_at TextTooLong MOST_TEXT_BYTES 0))
    else (lines_read marks ends text)
