-- How many turns and steps a search over n parts takes at most.
use Rattle.std.specs.Prelude.{ℕ, ◌+◌, ◌*◌, ◌^◌}

abbrev pub most_turns : ℕ → ℕ
most_turns n = 2 ^ n

abbrev pub most_steps : ℕ → ℕ
most_steps n = (n + 1) * 2 ^ n
