-- What a reading returns, and what it leaves in the tables, by what the text reads as.
use Rattle.std.specs.Prelude.{◌≡◌, ℕ, IsTrue, List, [], length, ℤ, Ok, Err, Result}
use Rattle.parts.specs.declared.fault.Fault.{Fault}
use Rattle.book.specs.Meaning.{Rule, RuleBook}
use Rattle.book.specs.Tables.{has_book, book_in}
use Rattle.grammar.specs.declared.Size.{Size}

-- the size of the book, or the fault
abbrev pub size_or_fault : Result RuleBook Fault → Result Size Fault
size_or_fault (Ok b) = Ok (record { n = b.n; m = length b.rules })
size_or_fault (Err e) = Err e

-- the rules that go into the tables: none after a fault
abbrev pub rules_in : Result RuleBook Fault → List Rule
rules_in (Ok b) = b.rules
rules_in (Err e) = []

-- the tables have a book of that size, and it is the one that was read
abbrev pub HasReadBook : Result RuleBook Fault → List ℤ → List ℕ → Size → Type 0
HasReadBook read marks ends s =
    IsTrue (has_book s.n s.m marks ends) × (read ≡ Ok (book_in s.n s.m marks ends))
