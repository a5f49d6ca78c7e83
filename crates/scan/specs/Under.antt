-- What a scan looks at: the rules, and the settled row.
use Rattle.std.specs.Prelude.{List, Option}
use Rattle.parts.specs.Rows.{Row}
use Rattle.book.specs.Meaning.{Rule}
use Rattle.rules.specs.declared.RuleList.{Ghosts}
use Rattle.scan.specs.declared.Scan.{Scan}

module _ {R : Type 0} {g : Ghosts R} where
  abbrev pub rules_of : Scan R g → List (Option Rule)
  rules_of s = (g.listed s.rules.now).rules

  abbrev pub row_of : Scan R g → Row
  row_of s = s.row.now
