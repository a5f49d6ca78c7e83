-- What is loaded over two tables, what these then hold, and why a text is not loaded.
use Rattle.std.specs.Prelude.{◌≡◌, ℕ, List, length, replicate, pos, ℤ, Err, Result, codes, vec_items}
use Rattle.parts.specs.declared.limits.TheConstants.{MOST_TEXT_MARKS, MOST_TEXT_RULES}
use Rattle.parts.specs.Numbers.{fault_text}
use Rattle.book.specs.Meaning.{Rule, RuleBook}
use Rattle.book.specs.Tables.{mark_table, end_table}
use Rattle.book.specs.declared.text.Tables.{Tables}
use Rattle.parts.specs.declared.fault.Fault.{Fault}
use Rattle.grammar.specs.Reading.{read_of}
use Rattle.reading.specs.Fills.{with_front}
use Rattle.reading.specs.declared.loading.LoadError.{LoadError}
use Rattle.reading.specs.declared.loading.LoadError.TheVariants.{Faulty, NoMemory}

-- tables that take any book of the format, all zeros
abbrev pub HasZeros : Tables → Type 0
HasZeros t =
    (vec_items t.marks ≡ replicate MOST_TEXT_MARKS (pos 0))
    × (vec_items t.ends ≡ replicate MOST_TEXT_RULES 0)

-- what a text reads as for these tables
abbrev pub read_in : Tables → List ℕ → Result RuleBook Fault
read_in t text = read_of (length (vec_items t.marks)) (length (vec_items t.ends)) text

-- the tables after the rules went into their front: what stands behind, and their lengths, stay
abbrev pub Filled : List Rule → Tables → Tables → Type 0
Filled rs before after =
    (vec_items after.marks ≡ with_front (mark_table rs) (vec_items before.marks))
    × (vec_items after.ends ≡ with_front (end_table 0 rs) (vec_items before.ends))

-- the tables hold what they held
abbrev pub SameTables : Tables → Tables → Type 0
SameTables before after =
    (vec_items after.marks ≡ vec_items before.marks)
    × (vec_items after.ends ≡ vec_items before.ends)

-- the tables that were zeros, after the rules went into their front
abbrev pub FilledZeros : List Rule → Tables → Type 0
FilledZeros rs after =
    (vec_items after.marks ≡ with_front (mark_table rs) (replicate MOST_TEXT_MARKS (pos 0)))
    × (vec_items after.ends ≡ with_front (end_table 0 rs) (replicate MOST_TEXT_RULES 0))

-- the text's fault, or that memory failed, which says nothing of the text
abbrev pub IsNotLoaded : List ℕ → LoadError → Type 0
IsNotLoaded text (Faulty f) = read_of MOST_TEXT_MARKS MOST_TEXT_RULES text ≡ Err f
IsNotLoaded text NoMemory = Unit {0}

abbrev pub load_error_text : LoadError → List ℕ
load_error_text (Faulty f) = fault_text f
load_error_text NoMemory = codes "out of memory"
