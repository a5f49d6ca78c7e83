use Rattle.std.proofs.Common.{◌≡◌, length, Err, arith, rules}
use Rattle.std.proofs.lemmas.Grind.{common_steps}
use Rattle.std.proofs.lemmas.Bool.Decides.{nat_tests}
use Rattle.parts.specs.declared.refusal.Refusal.TheVariants.{SheetOutOfOrder}
use Rattle.sheet.specs.Reading.{sheet_fault, sheet_of}
use Rattle.sheet.proofs.FirstFaults.{refusing_is_first}
use Rattle.sheet.proofs.sheet.Sheet.read.Goals as goal

-- a part has no name
pub returns-then-len-n-clause-faults : goal.returns-then-len-n-clause-faults
unfolding sheet_of
returns-then-len-n-clause-faults g c =
    let e : sheet_of (g.B.Book.meaning c.args.book.now).n c.args.text.now ≡ Err c.new-then-len-n.result = first_of (search rules, grind (arith, common_steps), grind (arith, common_steps, nat_tests)) in
    refusing_is_first _ _ _ e
