-- A state that some list of calls led to from a fresh one.
use Rattle.std.specs.Prelude.{◌≡◌, List}
use Rattle.search.specs.Machine.{Bench, Machine}
use Rattle.search.specs.Calls.{Call, calls}
use Rattle.search.specs.Law.{Fresh}

pub record Reached (b : Bench) (m : Machine) : Type 0 where
  pub start : Machine
  pub since : List Call
  pub fresh : Fresh b start
  pub is : m ≡ calls b since start
