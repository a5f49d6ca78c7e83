-- The text of a repair, and of a refusal, is what is printed of the two texts.
use Rattle.std.proofs.Common.{◌≡◌, ℕ, List, refl, inl, inr}
use Rattle.parts.specs.declared.fault.Fault.{Fault}
use Rattle.repair.specs.declared.repair.Repair.{Repair}
use Rattle.repair.specs.Promise.{Repaired, Refused, reads}
use Rattle.repair.specs.Printing.{repair_text, refused_text}
use Rattle.repair.specs.Fitting.{book_text}

pub repaired_is : (text sheet : List ℕ) (r : Repair) → Repaired text sheet r → repair_text r ≡ book_text (reads text) sheet
repaired_is text sheet r h = rw (h.is_book, h.is_sheet, h.solved.report, h.solved.row) refl

pub refused_is : (text sheet : List ℕ) (f : Fault) → Refused text sheet f → refused_text f ≡ book_text (reads text) sheet
refused_is text sheet f (inl e) = rw e refl
refused_is text sheet f (inr p) = rw (p.1, p.2) refl
