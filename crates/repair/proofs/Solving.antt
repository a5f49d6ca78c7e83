-- A whole search under holds is not refused.
use Rattle.std.proofs.Common.{◌≡◌, ℕ, true, false, List, [], ◌∷◌, None, Ok, Result, IfOk, refl, arith}
use Rattle.std.specs.List.{list_all}
use Rattle.std.proofs.lemmas.Bool.Decides.{nat_tests}
use Rattle.parts.specs.declared.limits.TheConstants.{MOST_BUDGET, MOST_TABLE_PLACES}
use Rattle.parts.specs.declared.mark.Mark.{Mark}
use Rattle.parts.specs.Distinct.{is_part, is_distinct}
use Rattle.parts.specs.declared.refusal.Refusal.{Refusal}
use Rattle.parts.specs.Rows.{Row}
use Rattle.book.specs.Meaning.{RuleBook}
use Rattle.picker.specs.Meaning.{Picks}
use Rattle.picker.specs.Lowest.{lowest_picks}
use Rattle.shelf.specs.Meaning.{Shelved}
use Rattle.shelf.specs.Table.{empty_shelf}
use Rattle.search.specs.declared.report.Report.{Report}
use Rattle.search.specs.Calls.{report}
use Rattle.session.specs.Solving.{names_twice, refuses_solve, solved, solved_row, SolvedTruly}
use Rattle.repair.specs.Promise.{bench, blank, end_state, end_row}

are_parts : (n : ℕ) (hs : List Mark) → is_distinct n hs ≡ true → list_all (λ h. is_part n h.part) hs ≡ true
are_parts n [] d = refl
are_parts n (h ∷ hs) d = grind (arith, are_parts n hs)

none_twice : (n : ℕ) (hs : List Mark) → is_distinct n hs ≡ true → names_twice hs ≡ false
none_twice n [] d = refl
none_twice n (h ∷ hs) d = grind (arith, none_twice n hs)

pub accepted : (b : RuleBook) (p : Picks) (s : Shelved) (hs : List Mark) (len : ℕ) → p.n ≡ b.n → s.n ≡ b.n → len ≡ b.n → is_distinct b.n hs ≡ true
    → refuses_solve (bench b) p s hs MOST_BUDGET len ≡ None
accepted b p s hs len e f g d = grind (arith, nat_tests, are_parts b.n hs d, none_twice b.n hs d)

same_report : (o : Result Report Refusal) (r s : Report) → o ≡ Ok r → o ≡ Ok s → r ≡ s
same_report o r s e f = grind (arith, e, f)

-- and what it returns is what was promised
pub ended : (b : RuleBook) (hs : List Mark) (p : Picks) (s : Shelved) (old new items : Row) (reply : Result Report Refusal) (r : Report)
    → p ≡ lowest_picks b.n → s ≡ empty_shelf b.n MOST_TABLE_PLACES → old ≡ blank b.n → items ≡ new
    → reply ≡ Ok (report (solved (bench b) p s hs MOST_BUDGET)) → new ≡ solved_row b.n (solved (bench b) p s hs MOST_BUDGET) old
    → reply ≡ Ok r → IfOk reply (SolvedTruly b hs MOST_BUDGET old new)
    → (r ≡ report (end_state b hs)) × (items ≡ end_row b hs) × SolvedTruly b hs MOST_BUDGET (blank b.n) items r
ended b hs p s old new items reply r ep es eo ei er en is truly =
    (same_report reply r _ is (rw (ep, es) at er), rw (ei, en, ep, es, eo) refl, rw (ei, ← eo) (rw is at truly))
