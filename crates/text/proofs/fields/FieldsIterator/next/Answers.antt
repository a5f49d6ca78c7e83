use Rattle.std.proofs.Common.{◌≡◌, ◌<◌, ◌∷◌, length, ap, rules, tests, arith}
use Rattle.std.proofs.lemmas.Iterator.{YieldsList-from_slice}
use Rattle.text.specs.Views.{fields_left}
use Rattle.text.proofs.Runs.{inner, leading, begun}
use Rattle.text.proofs.fields.FieldsIterator.next.Goals as goal
use Rattle.text.proofs.fields.FieldsIterator.next.Goals.{After-new}

-- the first field goes up to the next blank, and the others are left
first : (c : After-new) → fields_left c.args.self.now ≡ record { at = c.args.self.now.at; bytes = c.split_at.result.0.now } ∷ fields_left c.new.result
first c =
    let s = c.args.self.now in
    let bs = s.rest.now in
    let n = leading _ inner c.count-len.result c.count-len.ensures.ran (YieldsList-from_slice bs cc) c.take_while.ensures.closure c.take_while.ensures.done (λ x b q k. search (rules, tests)) in
    let some : 0 < length bs = search rules in
    rw (c.new.ensures, c.split_at.ensures.front, c.split_at.ensures.back, n) (begun s.at bs (s.begun some))

pub returns-clause-steps : goal.returns-clause-steps
returns-clause-steps c = first (goal.at.returns-clause-steps c).After-new

pub returns-clause-goes : goal.returns-clause-goes
returns-clause-goes c =
    let fewer : length (fields_left c.new.result) < length (fields_left c.args.self.now) = omega (arith, ap length (first (goal.at.returns-clause-goes c).After-new)) in
    search rules
