use Rattle.std.proofs.Common.{length, arith}
use Rattle.std.specs.Prelude.{◌==◌}
use Rattle.std.proofs.lemmas.Bool.Decides.{nat_tests}
use Rattle.std.proofs.lemmas.List.Folds.{list_any_at}
use Rattle.picker.specs.Proved.{Within, ranked_parts, first_found, first_free}
use Rattle.picker.proofs.ranked.RankedPicker.pick.Goals as goal

-- the first open mark is the picker's answer
pub returns : goal.returns
returns c =
    let row = c.args.row.now in
    let ms = c.args.self.now.list.items in
    let h = c.args.self.now.ranked in
    grind (arith, nat_tests, first_free row ms h, first_found (Within (length ms)) row ms (ranked_parts ms h), list_any_at (λ c. c == 0) row)
