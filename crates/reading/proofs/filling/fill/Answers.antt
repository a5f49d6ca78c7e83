use Rattle.parts.specs.declared.limits.TheConstants.{MOST_PARTS, MOST_TEXT_MARKS}
use Rattle.std.proofs.Common.{◌≡◌, ◌≤◌, true, nat_abs, refl, ◌∙◌, arith, rules}
use Rattle.text.proofs.Each.{each_weaker}
use Rattle.std.proofs.lemmas.List.{set-get_or}
use Rattle.text.specs.Views.{piece_of}
use Rattle.reading.specs.Counted.{counts, all_lines, lines_left, text_end}
use Rattle.reading.proofs.Counting.{head_counts}
use Rattle.reading.proofs.FillSteps.{room_in, Fills, Takes, fills_none, fills_rule, fills_more, rule_length, marks_room, none_lines, none_ends}
use Rattle.reading.proofs.filling.fill.Goals as goal
use Rattle.reading.proofs.filling.fill.Goals.{In-Some}

pub loop-end-init : goal.loop-end-init
loop-end-init c = λ rs e. fills_none c.args.head.rules refl refl e

pub returns-in_default : goal.returns-in_default
returns-in_default c = record {
  marks = λ rs e. (none_lines (c.loop-end.invariant rs e) c.in_default.ensures.steps.0.0).0;
  ends = λ rs e. set-get_or _ _ _ ∙ (none_lines (c.loop-end.invariant rs e) c.in_default.ensures.steps.0.0).1;
}

pub returns : goal.returns
returns c = record { marks = λ rs e. (none_ends (c.loop-end.invariant rs e) (omega arith)).0; ends = λ rs e. (none_ends (c.loop-end.invariant rs e) (omega arith)).1 }

-- the tables as the line finds them, and what it stores
fills : (c : In-Some) → Fills (room_in c.args.head.size.n c.args.marks.now c.args.ends.now) (text_end c.args.head.rules) c.args.head.size.m c.requires.0 c.args.marks.now c.args.ends.now (lines_left c.loop-end.lines) c.loop-end.end-index c.loop-end.used c.loop-end.marks c.loop-end.ends
fills c = c.loop-end.invariant c.requires.0 c.requires.1

counts_here : (c : In-Some) → counts (piece_of c.in-Some.line) ≡ true
counts_here c = head_counts (all_lines c.loop-end.lines) (piece_of c.in-Some.line) (lines_left c.next.new.self) c.in-Some.ensures.steps.0

takes : (c : In-Some) → Takes (fills c) c.in-Some.ensures.steps.0
takes c = fills_rule (fills c) _ (counts_here c)

pub fill_rule-used-requires-clause-small : goal.fill_rule-used-requires-clause-small
fill_rule-used-requires-clause-small c =
    let range = c.args.head.range in
    each_weaker (λ z. nat_abs z ≤ c.args.head.size.n) (λ z. nat_abs z ≤ MOST_PARTS) (λ z h. omega (arith, range.1)) _ (takes (goal.at.fill_rule-used-requires-clause-small c).In-Some).small

pub fill_rule-used-requires-clause-room : goal.fill_rule-used-requires-clause-room
fill_rule-used-requires-clause-room c = let d = (goal.at.fill_rule-used-requires-clause-room c).In-Some in marks_room (fills d) _ (takes d)

pub overflow_cast-end : goal.overflow_cast-end
overflow_cast-end c =
    let d = (goal.at.overflow_cast-end c).In-Some in
    let t = takes d in
    let few : c.fill_rule-used.result ≤ MOST_TEXT_MARKS = omega (arith, t.few, rule_length (fills d) _ t, c.fill_rule-used.ensures.value) in
    search rules

pub loop-end-preserved : goal.loop-end-preserved
loop-end-preserved c = λ rs e.
    let f = c.loop-end.invariant rs e in
    fills_more f c.in-Some.ensures.steps.0 (fills_rule f _ (counts_here (goal.at.loop-end-preserved c).In-Some)) c.fill_rule-used.result _ c.fill_rule-used.ensures.value c.fill_rule-used.ensures.front
