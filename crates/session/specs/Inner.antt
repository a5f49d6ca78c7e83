-- A search under way, as the definitions see it: its bench, and its state.
use Rattle.std.specs.Prelude.{◌≡◌, ◌<◌}
use Rattle.book.specs.declared.Book as books
use Rattle.picker.specs.declared.Picker as pickers
use Rattle.shelf.specs.declared.Shelf as shelves
use Rattle.parts.specs.declared.limits.TheConstants.{MOST_STEPS}
use Rattle.search.specs.Machine.{Bench, Machine}
use Rattle.session.specs.declared.search_state.Search.{Search}
use Rattle.session.specs.declared.verdict.Verdict.TheVariants.{Working}
use Rattle.session.specs.Verdicts.{verdict_of}

module _ {B P S : Type 0} {b : books.Ghosts B} {p : pickers.Ghosts P} {s : shelves.Ghosts S} where
  abbrev pub bench_in : Search B P S b p s → Bench
  bench_in x = record { book = b.meaning x.book; forget = x.forget }

  abbrev pub state_in : Search B P S b p s → Machine
  state_in x =
      record {
        picker = p.meaning x.picker;
        holds = x.holds;
        trail = x.trail.entries;
        shelf = s.meaning x.shelf;
        last = x.last;
        steps = x.steps;
        turns = x.turns;
        verdict = verdict_of (b.meaning x.book).n x.verdict;
      }

  -- no verdict stands, and one more step may be counted
  abbrev pub Going : Search B P S b p s → Type 0
  Going x = (x.verdict ≡ Working) × (x.steps < MOST_STEPS)

  -- book, picker and forgetting rule are as they were
  abbrev pub Kept : Search B P S b p s → Search B P S b p s → Type 0
  Kept x y = (y.book ≡ x.book) × (y.picker ≡ x.picker) × (y.forget ≡ x.forget)
