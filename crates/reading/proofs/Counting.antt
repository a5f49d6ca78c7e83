-- The lines that count are those with a field, and the others change nothing.
use Rattle.std.proofs.Common.{◌≡◌, ℕ, ◌+◌, ◌<◌, true, List, [], ◌∷◌, filter, Err, Result, refl, arith, length, Ok}
use Rattle.std.proofs.lemmas.Bool.Decides.{nat_tests}
use Rattle.parts.specs.declared.fault.Fault.{Fault}
use Rattle.parts.specs.declared.refusal.Refusal.TheVariants.{NoHead}
use Rattle.book.specs.Meaning.{Rule}
use Rattle.grammar.specs.declared.Room.{Room}
use Rattle.grammar.specs.declared.Size.{Size}
use Rattle.text.specs.Pieces.{Piece}
use Rattle.grammar.specs.Reading.{counted, fault_at, head_of, rule_of, rules_of, from_head, with_rule, rule_start}
use Rattle.grammar.proofs.Accepted.{from_size}
use Rattle.grammar.proofs.RuleLines.{read_rule, rules_rule}
use Rattle.reading.specs.Counted.{has_field, counts}
use Rattle.reading.specs.Checks.{count_or_fault, done_or_fault}

-- a line that counts has a first field
pub some_field : (l : Piece) → counts l ≡ true → (f : Piece) × (fs : List Piece) × (counted l ≡ f ∷ fs)
some_field l = by (counted l)
  where
    by : (fs : List Piece) → has_field fs ≡ true → (f : Piece) × (gs : List Piece) × (fs ≡ f ∷ gs)
    by [] e = cc
    by (f ∷ fs) e = (f, fs, refl)

-- the first of the lines that count does
pub head_counts : (ls : List Piece) (l : Piece) (more : List Piece) → filter counts ls ≡ l ∷ more → counts l ≡ true
head_counts [] l more e = cc
head_counts (k ∷ ls) l more e = grind (arith, head_counts ls l more)

module _ (room : Room) (end m : ℕ) where
  -- the same rules are read where the lines that do not count are left out
  pub rules_counting : (ls : List Piece) (done used : ℕ) → rules_of room end m done used (filter counts ls) ≡ rules_of room end m done used ls
  rules_counting [] done used = refl
  rules_counting (l ∷ ls) done used = by (counted l) refl (rules_counting ls)
    where
      rule : ((done used : ℕ) → rules_of room end m done used (filter counts ls) ≡ rules_of room end m done used ls) → (x : Result Rule Fault) → read_rule room end m done used (filter counts ls) x ≡ read_rule room end m done used ls x
      rule same x = grind (arith, same)

      by : (fs : List Piece) → counted l ≡ fs → ((done used : ℕ) → rules_of room end m done used (filter counts ls) ≡ rules_of room end m done used ls)
          → rules_of room end m done used (filter counts (l ∷ ls)) ≡ rules_of room end m done used (l ∷ ls)
      by [] e same = grind (arith, same done used)
      by (f ∷ fs) e same = let first : filter counts (l ∷ ls) ≡ l ∷ filter counts ls = rw e refl in rw first (grind (arith, rule same (rule_of room (rule_start done used l) [] (f ∷ fs))))

  module _ (done used : ℕ) (l : Piece) (ls : List Piece) (f : Piece) (fs : List Piece) (e : counted l ≡ f ∷ fs) where
    -- a line for the next rule
    pub line_fault : done < m → (x : Fault) → rule_of room (rule_start done used l) [] (counted l) ≡ Err x → rules_of room end m done used (l ∷ ls) ≡ Err x
    line_fault h x is = grind (arith, nat_tests)

module _ (marks ends end : ℕ) where
  size_counting : (ls : List Piece) (x : Result Size Fault) → from_size marks ends end (filter counts ls) x ≡ from_size marks ends end ls x
  size_counting ls x = grind (arith, rules_counting)

  -- the same head is read where the lines that do not count are left out
  head_counting : (ls : List Piece) → from_head marks ends end (filter counts ls) ≡ from_head marks ends end ls
  head_counting [] = refl
  head_counting (l ∷ ls) = grind (arith, head_counting ls, size_counting ls (head_of l.at (counted l)))

  -- the first line that counts is the head's
  pub head_line : (all : List Piece) (l : Piece) (ls : List Piece) → filter counts all ≡ l ∷ ls → from_head marks ends end all ≡ from_size marks ends end ls (head_of l.at (counted l))
  head_line all l ls e =
      let some = some_field l (head_counts all l ls e) in
      let more = some.2 in
      grind (arith, head_counting all)

  -- no line counts
  pub head_none : (all : List Piece) → filter counts all ≡ [] → from_head marks ends end all ≡ Err (fault_at NoHead end 0)
  head_none all e = rw (← head_counting all, e)

-- One rule line more, and the end of the lines.
done_with_rule : (r : Rule) (x : Result (List Rule) Fault) → done_or_fault (with_rule r x) ≡ done_or_fault x
done_with_rule r x = grind arith

-- what a count, and a fault, say of the rule
counted_rule : (x : Result Rule Fault) (k : ℕ) → Ok k ≡ count_or_fault x → (r : Rule) × (x ≡ Ok r) × (length r ≡ k)
counted_rule (Ok r) k e = (r, refl, cc)
counted_rule (Err d) k e = cc

counted_fault : (x : Result Rule Fault) (d : Fault) → Err d ≡ count_or_fault x → x ≡ Err d
counted_fault x d e = grind arith

-- the rules after `done` of m rules
module _ (room : Room) (end m done used : ℕ) (lines : List Piece) (high : done < m) where
  module _ (l : Piece) (ls : List Piece) (e : lines ≡ l ∷ ls) where
    abbrev pub this_rule : Result Rule Fault
    this_rule = rule_of room (rule_start done used l) [] (counted l)

    -- the line reads as a rule of k marks
    pub on_rule : (k : ℕ) → Ok k ≡ count_or_fault this_rule → done_or_fault (rules_of room end m done used lines) ≡ done_or_fault (rules_of room end m (done + 1) (used + k) ls)
    on_rule k is = let (r, x, n) = counted_rule this_rule k is in grind (arith, rules_rule room end m done used l ls r high, done_with_rule r)

    -- or has a fault
    pub on_fault : counts l ≡ true → (x : Fault) → Err x ≡ count_or_fault this_rule → done_or_fault (rules_of room end m done used lines) ≡ Err x
    on_fault c x is = let (f, fs, some) = some_field l c in grind (arith, line_fault room end m done used l ls f fs some high x, counted_fault this_rule x is)
