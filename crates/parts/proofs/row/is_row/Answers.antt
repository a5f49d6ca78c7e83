use Rattle.std.proofs.Common.{arith, rules, tests}
use Rattle.std.specs.Prelude.{nat_le}
use Rattle.std.proofs.lemmas.Iterator.{YieldsList-from_slice}
use Rattle.std.proofs.lemmas.Iterator.Search.{all_from_yields_List}
use Rattle.std.proofs.lemmas.Bool.Decides.{nat_tests}
use Rattle.parts.proofs.row.is_row.Goals as goal

pub returns-then-codes-n : goal.returns-then-codes-n
returns-then-codes-n c =
    let few = all_from_yields_List (λ code. nat_le code 2) _ _ c.all.result c.all.ensures.ran (YieldsList-from_slice c.args.codes.now cc) (λ x b q k. search (rules, tests)) in
    grind (arith, nat_tests)
