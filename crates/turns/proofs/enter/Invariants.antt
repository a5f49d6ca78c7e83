use Rattle.std.proofs.Common.{◌≡◌, drop}
use Rattle.rules.specs.Listing.{rule_in}
use Rattle.search.specs.Machine.{marks_at}
use Rattle.search.specs.Trail.{enter}
use Rattle.turns.proofs.enter.Given as goal

abbrev pub invariant-loop-before : goal.invariant-loop-before
invariant-loop-before g l =
    let ms = marks_at (rule_in (g.R.RuleList.listed l.list).rules l.rule) in enter l.row (drop l.before ms) ≡ enter l.initial.row ms
