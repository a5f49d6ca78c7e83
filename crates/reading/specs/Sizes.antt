-- The sizes that a book of a text may have.
use Rattle.std.specs.Prelude.{◌≤◌}
use Rattle.parts.specs.declared.limits.TheConstants.{MOST_PARTS, MOST_TEXT_RULES}
use Rattle.grammar.specs.declared.Size.{Size}

-- 1 to 120 parts, and at most 4,000 rules
abbrev pub InRange : Size → Type 0
InRange s = (1 ≤ s.n) × (s.n ≤ MOST_PARTS) × (s.m ≤ MOST_TEXT_RULES)
