use Rattle.std.proofs.Common.{◌≡◌, ◌+◌, ◌<◌, false, [], ◌∷◌, ◌++◌, length, nat_abs, Some, refl, sym, ap, ◌∙◌, arith, w32, SFits, rules}
use Rattle.std.proofs.lemmas.Int.{to_z-of_z}
use Rattle.std.proofs.lemmas.List.{get_or-replicate}
use Rattle.parts.specs.Marks.{mark_from}
use Rattle.text.specs.Numbers.{signed}
use Rattle.grammar.specs.Reading.{rule_of}
use Rattle.book.specs.Tables.{marks_limit}
use Rattle.grammar.proofs.Marks.{Taken, taken_field}
use Rattle.text.specs.Views.{piece_of, fields_left}
use Rattle.reading.proofs.RuleSteps.{rule_mark, shows_more, zero_bits}
use Rattle.reading.proofs.checking.check_rule.Goals as goal
use Rattle.reading.proofs.checking.check_rule.Goals.{After-unsigned_abs}

pub loop-field-init : goal.loop-field-init
loop-field-init c = (refl, refl, ([], record { count_is = refl; names_are = λ p h. get_or-replicate 121 p false false (omega arith) }, refl))

-- what a field says that passed
taken : (c : After-unsigned_abs) → (signed c.in-Some.field.bytes.now ≡ Some c.in_ok-number.number) × Taken c.loop-field.open.room c.loop-field.open.start c.loop-field.invariant.2.0 c.in_ok-number.number
taken c = taken_field _ _ c.loop-field.invariant.2.0 _ _ _ (sym (c.in_ok-number.ensures _ c.loop-field.invariant.2.1))

part_is : (c : After-unsigned_abs) → c.unsigned_abs.result ≡ nat_abs c.in_ok-number.number
part_is c =
    let f : SFits w32 c.in_ok-number.number = search rules in
    grind (arith, c.unsigned_abs.ensures.value, to_z-of_z w32 c.in_ok-number.number f)

room_left : (c : After-unsigned_abs) → c.loop-field.open.start.used + length c.loop-field.invariant.2.0 < marks_limit c.loop-field.open.room.marks
room_left c = (taken c).1.fits (λ e. c.if-number-eq0.false (zero_bits c.in_ok-number.number e))

pub add-requires : goal.add-requires
add-requires c = let few = c.loop-field.open.few in (omega (arith, part_is c, (taken c).1.within), omega (arith, room_left c, c.loop-field.invariant.2.1.count_is))

pub loop-field-preserved : goal.loop-field-preserved
loop-field-preserved c =
    let d = (goal.at.loop-field-preserved c).After-unsigned_abs in
    let o = c.loop-field.open in
    let few = o.few in
    let marks = c.loop-field.invariant.2.0 in
    let z = c.in_ok-number.number in
    let same = c.add.ensures.same in
    let more = rule_mark o.room o.start marks (piece_of c.in-Some.field) (fields_left c.next.new.self) z (taken d).0 (taken d).1 (λ e. c.if-number-eq0.false (zero_bits z e)) in (
      same.0 ∙ c.loop-field.invariant.0,
      same.1 ∙ c.loop-field.invariant.1,
      (
        marks ++ mark_from z ∷ [],
        shows_more o c.add.new.self marks z (omega (arith, (taken d).1.within)) c.loop-field.invariant.2.1 (rw (← part_is d) (c.add.ensures.named)) c.add.ensures.count,
        rw (same.0, same.1, ← more) (sym (ap (rule_of o.room o.start marks) c.in-Some.ensures.steps) ∙ c.loop-field.invariant.2.2),
      ),
    )
