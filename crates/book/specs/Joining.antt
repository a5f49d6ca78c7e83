-- Two books joined: the first's rules before the second's (a conjunction of two formulas).
use Rattle.std.specs.Prelude.{◌+◌, Bool, if◌then◌else◌, ◌&&◌, [], ◌++◌, length, ◌==◌, nat_le}
use Rattle.parts.specs.declared.limits.TheConstants.{MOST_RULES}
use Rattle.parts.specs.declared.refusal.Refusal.{Refusal}
use Rattle.parts.specs.declared.refusal.Refusal.TheVariants.{JoinPartsDiffer, JoinTooManyRules}
use Rattle.book.specs.Meaning.{RuleBook}

-- as many parts, and at most 20,000 rules together
abbrev pub joinable : RuleBook → RuleBook → Bool
joinable f s = f.n == s.n && nat_le (length f.rules + length s.rules) MOST_RULES

-- why two books that may not be joined are refused
abbrev pub join_refusal : RuleBook → RuleBook → Refusal
join_refusal f s = if f.n == s.n then JoinTooManyRules else JoinPartsDiffer

-- the first's rules, then the second's
abbrev pub both_rules : RuleBook → RuleBook → RuleBook
both_rules f s = record { n = f.n; rules = f.rules ++ s.rules }

-- what two books mean together: the second adds its rules only where the two may be joined
abbrev pub joined_rules : RuleBook → RuleBook → RuleBook
joined_rules f s = record {
  n = f.n;
  rules = f.rules ++ (if joinable f s then s.rules else []);
}
