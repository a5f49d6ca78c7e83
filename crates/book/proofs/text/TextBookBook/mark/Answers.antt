use Rattle.std.proofs.Common.{◌-◌, sym, arith, w16, SFits, rules}
use Rattle.std.proofs.lemmas.Int.{to_z-of_z}
use Rattle.std.proofs.lemmas.Option.{slice_get-get_or}
use Rattle.book.proofs.Spans.{mark_at}
use Rattle.book.proofs.text.TextBookBook.mark.Goals as goal

pub returns : goal.returns
returns c =
    let numbers = c.in_ok-numbers.field-0.now in
    let number = c.in_ok-number.number.now in
    let m = mark_at _ c.args.rule c.args.place numbers (sym c.in_ok-numbers.ensures) (λ z. omega arith) in
    let s = slice_get-get_or numbers (c.args.place - 1) number (omega (arith, c.in_ok-number.ensures.lookup)) in
    let z : SFits w16 number = search rules in
    grind (arith, to_z-of_z)
