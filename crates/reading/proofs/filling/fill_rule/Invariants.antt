use Rattle.parts.specs.declared.limits.TheConstants.{MOST_PARTS}
use Rattle.std.proofs.Common.{◌≡◌, ◌+◌, ◌≤◌, List, ◌++◌, length, ℤ, nat_abs}
use Rattle.std.specs.List.{AllByRecursion}
use Rattle.grammar.specs.Reading.{counted}
use Rattle.reading.specs.Fills.{Front, stored}
use Rattle.text.specs.Views.{piece_of, fields_left}
use Rattle.reading.proofs.filling.fill_rule.Given as goal

abbrev pub invariant-loop-field : goal.invariant-loop-field
invariant-loop-field l =
    let whole = stored (counted (piece_of l.fn.line)) in
    let left = stored (fields_left l.field-iterator) in
    AllByRecursion (λ z. nat_abs z ≤ MOST_PARTS) left
    × (l.entry + length left ≡ l.fn.used + length whole)
    × ((before all more : List ℤ) → Front before all (whole ++ more) l.initial.marks l.fn.used → Front before all (left ++ more) l.marks l.entry)
