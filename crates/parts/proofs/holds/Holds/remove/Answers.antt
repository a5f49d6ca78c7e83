use Rattle.std.proofs.Common.{◌≡◌, not, eqb, arith, rules}
use Rattle.arrayvec.proofs.ArrayVecLemmas.{filter-from_retain}
use Rattle.parts.specs.declared.mark.Mark.{Mark}
use Rattle.parts.specs.Distinct.{released}
use Rattle.parts.proofs.DistinctLaws.{released_distinct}
use Rattle.parts.specs.declared.limits.TheConstants.{MOST_PARTS}
use Rattle.parts.proofs.holds.Holds.remove.Goals as goal

pub invariant_of-self : goal.invariant_of-self
invariant_of-self c =
    let left = filter-from_retain _ (λ (m : Mark). not (eqb m.part c.args.part)) _ (λ x b f' y called. search rules) _ _ c.retain.ensures.filtered in
    grind (arith, left, c.self.invariant, released_distinct MOST_PARTS c.args.part)

pub returns : goal.returns
returns c =
    let left = filter-from_retain _ (λ (m : Mark). not (eqb m.part c.args.part)) _ (λ x b f' y called. search rules) _ _ c.retain.ensures.filtered in
    grind (arith, left, c.self.view_is)
