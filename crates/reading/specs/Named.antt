-- How the first pass speaks of the marks of a rule that it reads.
use Rattle.std.specs.Prelude.{◌≡◌, ℕ, ◌≤◌, false, length, slice_index_or}
use Rattle.parts.specs.declared.limits.TheConstants.{MOST_PARTS}
use Rattle.parts.specs.Distinct.{names}
use Rattle.book.specs.Meaning.{Rule}
use Rattle.reading.specs.declared.checking.OpenRule.{OpenRule}

-- the parts that these marks name, and how many they are
pub record HasNamed (open_rule : OpenRule) (marks : Rule) : Type 0 where
  pub count_is : open_rule.count ≡ length marks
  pub names_are : (p : ℕ) → p ≤ MOST_PARTS → slice_index_or open_rule.named p false ≡ names marks p
