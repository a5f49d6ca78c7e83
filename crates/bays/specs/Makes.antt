-- What a book of bays is seen as.
use Rattle.std.specs.Prelude.{ℕ, Vec, vec_items}
use Rattle.std.specs.declared.alloc.Global.{Global}
use Rattle.book.specs.Meaning.{RuleBook}
use Rattle.bays.specs.Meaning.{bay_book}
use Rattle.bays.specs.declared.BayBook.{BayBook}

-- the widths that it owns
abbrev pub widths_of : BayBook → Vec ℕ Global
widths_of b = b.widths

-- what it means
abbrev pub book_of_bays : BayBook → RuleBook
book_of_bays b = bay_book (vec_items b.widths)
