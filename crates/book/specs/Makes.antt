-- What a book over two tables, and a joined book, are seen as.
use Rattle.book.specs.Meaning.{RuleBook}
use Rattle.std.specs.Prelude.{vec_items}
use Rattle.book.specs.Tables.{book_in}
use Rattle.book.specs.Joining.{joined_rules}
use Rattle.book.specs.declared.text.Tables.{Tables}
use Rattle.book.specs.declared.text.TextBook.{TextBook}
use Rattle.book.specs.declared.joined.Joined.{Joined}

-- the two tables
abbrev pub tables_of : TextBook → Tables
tables_of b = b.tables

-- what it means
abbrev pub text_book : TextBook → RuleBook
text_book b = book_in b.n b.rules (vec_items b.tables.marks) (vec_items b.tables.ends)

module _ {F S : Type 0} where
  -- the two books that were joined
  abbrev pub books_of : Joined F S → F × S
  books_of j = (j.first, j.second)

  -- what they mean together, from what each means
  abbrev pub joined_book : (F → RuleBook) → (S → RuleBook) → Joined F S → RuleBook
  joined_book f s j = joined_rules (f j.first) (s j.second)
