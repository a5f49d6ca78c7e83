use Rattle.std.proofs.Common.{◌≡◌, ◌++◌, length, ap, arith, w16, w32, SFits, to_z, of_z, rules}
use Rattle.reading.specs.Fills.{stored}
use Rattle.text.specs.Views.{fields_left}
use Rattle.reading.proofs.FillSteps.{front_more}
use Rattle.reading.proofs.RuleSteps.{zero_bits, cast_same, stored_stop, stored_zero, stored_mark, bits_zero}
use Rattle.reading.proofs.filling.fill_rule.Goals as goal

pub returns-in_default-clause-front : goal.returns-in_default-clause-front
returns-in_default-clause-front c = rw (stored_stop c.in-Some.ensures.steps c.in_default.ensures.value) at c.loop-field.invariant.2

pub returns-then-number-eq0-clause-front : goal.returns-then-number-eq0-clause-front
returns-then-number-eq0-clause-front c =
    let f : SFits w32 c.in-Some-signed.number = search rules in
    rw (stored_zero c.in-Some.ensures.steps _ c.in-Some-signed.ensures.value (bits_zero _ f c.if-number-eq0.true)) at c.loop-field.invariant.2

pub loop-field-preserved : goal.loop-field-preserved
loop-field-preserved c =
    let z = c.in-Some-signed.number in
    let e = stored_mark c.in-Some.ensures.steps z c.in-Some-signed.ensures.value (λ h. c.if-number-eq0.false (zero_bits z h)) in
    let small = rw e at c.loop-field.invariant.0 in
    let same : to_z w16 (of_z w16 (to_z w32 (of_z w32 z))) ≡ z = cast_same z (search rules) small.0 in (
      small.1,
      omega (arith, ap length e, c.loop-field.invariant.1),
      λ before all more f. rw same (front_more before all (stored (fields_left c.next.new.self) ++ more) c.loop-field.marks c.loop-field.entry z (rw e at c.loop-field.invariant.2 before all more f)),
    )

pub returns-clause-front : goal.returns-clause-front
returns-clause-front c = rw (c.in-None.ensures.steps.0) at c.loop-field.invariant.2
