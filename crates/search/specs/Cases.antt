-- Worked cases of forgetting, of the place written, and of whole sessions whose shelf gets full:
-- what the definitions say, and what they must. What they must was worked out apart from them.
use Rattle.std.specs.Prelude.{◌≡◌, ℕ, ◌+◌, Bool, true, false, List, [], ◌∷◌, ◌++◌, map, Some, None, Option, ◌==◌}
use Rattle.std.specs.List.{position_or_len}
use Rattle.parts.specs.declared.mark.Mark.{Mark}
use Rattle.parts.specs.declared.side.Side.TheVariants.{In, Out}
use Rattle.parts.specs.Rows.{Row}
use Rattle.book.specs.Meaning.{Rule}
use Rattle.picker.specs.Meaning.{Picks}
use Rattle.shelf.specs.Meaning.{Shelved}
use Rattle.shelf.specs.Table.{empty_shelf}
use Rattle.search.specs.declared.entry.Kind.TheVariants.{Forced}
use Rattle.search.specs.declared.forgetting.Forgetting.{Forgetting}
use Rattle.search.specs.declared.forgetting.Forgetting.TheVariants.{KeepAll, Size, Relevance, Bounded, Both}
use Rattle.search.specs.declared.reason.Reason.{Reason}
use Rattle.search.specs.declared.reason.Reason.TheVariants.{Book, Shelf}
use Rattle.search.specs.Trail.{Trail, row}
use Rattle.search.specs.Machine.{Bench, Machine, Places, Verdict, working, fits, none_fits, is_forgotten, next_place, swept}
use Rattle.search.specs.Calls.{Call, hold, release, run_for, calls, opened}

-- what is seen of a session after some calls
pub record Seen : Type 0 where
  pub verdict : Verdict
  pub choice : Row
  pub steps : ℕ
  pub turns : ℕ
  pub last : ℕ
  pub shelf : Places

-- what the definitions say of any of these
pub data Said : Type 0 where
  is_so : Bool → Said
  place : Option ℕ → Said
  shelf : Places → Said
  session : Seen → Said

-- one case: what is said, then what must be
pub record Case : Type 0 where
  pub says : Said
  pub wanted : Said

infix 70 ◌↝◌
abbrev pub ◌↝◌ : Said → Said → Case
◌↝◌ s w = record { says = s; wanted = w }

-- "part p is in", and "part p is out"
abbrev pub i : ℕ → Mark
i p = record { part = p; side = In }

abbrev pub o : ℕ → Mark
o p = record { part = p; side = Out }

-- a lesson over four parts, by its codes
abbrev pub lesson_of : ℕ → ℕ → ℕ → ℕ → Option Row
lesson_of a b c d = Some (a ∷ b ∷ c ∷ d ∷ [])

-- FORGETTING: whether a lesson of s marks, u of them open, is forgotten
abbrev pub forgets : Forgetting → ℕ → ℕ → Said
forgets f s u = is_so (is_forgotten f s u)

-- at each threshold, and one past it
abbrev pub thresholds : List Case
thresholds =
    forgets KeepAll 120 120 ↝ is_so false
    ∷ forgets (Size 3) 3 0 ↝ is_so false
    ∷ forgets (Size 3) 4 0 ↝ is_so true
    ∷ forgets (Relevance 2) 5 2 ↝ is_so false
    ∷ forgets (Relevance 2) 5 3 ↝ is_so true
    ∷ forgets (Bounded 3) 3 1 ↝ is_so false
    ∷ forgets (Bounded 3) 3 2 ↝ is_so true
    ∷ forgets (Bounded 3) 2 2 ↝ is_so false
    ∷ forgets (Bounded 3) 9 1 ↝ is_so false
    ∷ forgets (Both 3 2) 3 2 ↝ is_so false
    ∷ forgets (Both 3 2) 4 2 ↝ is_so true
    ∷ forgets (Both 3 2) 4 1 ↝ is_so false
    ∷ forgets (Both 3 2) 3 9 ↝ is_so false
    ∷ []

-- six places: four lessons, "-1 -4", and an empty one
abbrev pub six : Option Row → Option Row → Option Row → Option Row → Places
six p q r s = p ∷ q ∷ r ∷ s ∷ lesson_of 2 0 0 2 ∷ None ∷ []

-- the lessons "1 2", "2 3", "-1 2 4" and "1 2 3"
abbrev pub l12 : Option Row
l12 = lesson_of 1 1 0 0

abbrev pub l23 : Option Row
l23 = lesson_of 0 1 1 0

abbrev pub l124 : Option Row
l124 = lesson_of 2 1 0 1

abbrev pub l123 : Option Row
l123 = lesson_of 1 1 1 0

-- part 1 is in, forced by rule 4, and part 4 is out, forced by place 5
abbrev pub one_and_four : Trail
one_and_four =
    record { mark = o 4; kind = Forced (Shelf 5) }
    ∷ record { mark = i 1; kind = Forced (Book 4) }
    ∷ []

-- what is left of the six
abbrev pub sweeps : Forgetting → Said
sweeps f =
    let s : Shelved = record { n = 4; rows = six l12 l23 l124 l123 } in
    shelf (swept f (row 4 one_and_four) one_and_four s).rows

abbrev pub left : Option Row → Option Row → Option Row → Option Row → Said
left p q r s = shelf (six p q r s)

-- of marks they have 2, 2, 3 and 3, of open ones 1, 2, 1 and 2; the lesson in place 5 is a reason
abbrev pub sweeping : List Case
sweeping =
    sweeps KeepAll ↝ left l12 l23 l124 l123
    ∷ sweeps (Size 3) ↝ left l12 l23 l124 l123
    ∷ sweeps (Size 2) ↝ left l12 l23 None None
    ∷ sweeps (Size 1) ↝ left None None None None
    ∷ sweeps (Relevance 2) ↝ left l12 l23 l124 l123
    ∷ sweeps (Relevance 1) ↝ left l12 None l124 None
    ∷ sweeps (Relevance 0) ↝ left None None None None
    ∷ sweeps (Bounded 4) ↝ left l12 l23 l124 l123
    ∷ sweeps (Bounded 3) ↝ left l12 l23 l124 None
    ∷ sweeps (Bounded 2) ↝ left l12 None l124 None
    ∷ sweeps (Both 2 1) ↝ left l12 l23 None None
    ∷ sweeps (Both 2 2) ↝ left l12 l23 l124 None
    ∷ sweeps (Both 1 2) ↝ left l12 None l124 None
    ∷ []

-- THE PLACE WRITTEN: four places with a lesson (any will do) or without
abbrev pub taken : Option Row
taken = lesson_of 1 0 0 0

abbrev pub empty : Option Row
empty = None

abbrev pub four : Option Row → Option Row → Option Row → Option Row → Places
four p q r s = p ∷ q ∷ r ∷ s ∷ []

abbrev pub full : Places
full = four taken taken taken taken

-- a trail with these reasons; the marks do not matter here
abbrev pub forced_by : List Reason → Trail
forced_by rs = map (λ r. record { mark = i 1; kind = Forced r }) rs

abbrev pub next : Places → ℕ → List Reason → Said
next s last rs = place (next_place s last (forced_by rs))

-- places that were freed behind the last written, or are it; full shelves; and no place left
abbrev pub placing : List Case
placing =
    next (four empty empty empty empty) 0 [] ↝ place (Some 1)
    ∷ next (four taken taken empty empty) 2 (Shelf 2 ∷ []) ↝ place (Some 3)
    ∷ next (four empty taken empty taken) 2 [] ↝ place (Some 3)
    ∷ next (four empty taken taken empty) 2 [] ↝ place (Some 4)
    ∷ next (four empty empty taken taken) 4 [] ↝ place (Some 1)
    ∷ next (four taken empty taken taken) 3 [] ↝ place (Some 2)
    ∷ next (four taken empty taken taken) 2 [] ↝ place (Some 2)
    ∷ next (four empty taken empty taken) 3 [] ↝ place (Some 1)
    ∷ next full 0 (Shelf 1 ∷ []) ↝ place (Some 2)
    ∷ next full 1 (Shelf 2 ∷ []) ↝ place (Some 3)
    ∷ next full 2 (Book 3 ∷ []) ↝ place (Some 3)
    ∷ next full 4 (Shelf 3 ∷ Shelf 1 ∷ []) ↝ place (Some 2)
    ∷ next full 2 (Shelf 1 ∷ Book 2 ∷ Shelf 4 ∷ Shelf 3 ∷ []) ↝ place (Some 2)
    ∷ next full 3 (Shelf 1 ∷ Shelf 2 ∷ Shelf 4 ∷ Shelf 3 ∷ []) ↝ place None
    ∷ []

-- WHOLE SESSIONS: the picker puts the lowest open part in
abbrev pub lowest_in : ℕ → Picks
lowest_in n = record { n = n; choose = λ c. i (position_or_len (λ x. x == 0) c + 1) }

-- a session over four parts and four places after these calls
abbrev pub bench : List Rule → Forgetting → Bench
bench rs f = record { book = record { n = 4; rules = rs }; forget = f }

abbrev pub seen : Machine → Seen
seen m = record {
  verdict = m.verdict;
  choice = row 4 m.trail;
  steps = m.steps;
  turns = m.turns;
  last = m.last;
  shelf = m.shelf.rows;
}

abbrev pub says : List Rule → Forgetting → List Call → Said
says rs f cs = session (seen (calls (bench rs f) cs (opened (lowest_in 4) (empty_shelf 4 4))))

-- the verdict, the settled row, steps, turns, the place last written, and the four places
abbrev pub gave : Verdict → Row → ℕ → ℕ → ℕ → Places → Said
gave v r s t p rows =
    session (record { verdict = v; choice = r; steps = s; turns = t; last = p; shelf = rows })

abbrev pub codes_of : ℕ → ℕ → ℕ → ℕ → Row
codes_of a b c d = a ∷ b ∷ c ∷ d ∷ []

-- four lessons fill the shelf; at the fifth the next place after the last is written over
abbrev pub over : List Rule
over =
    (i 3 ∷ o 4 ∷ [])
    ∷ (o 1 ∷ o 2 ∷ o 3 ∷ [])
    ∷ (o 3 ∷ i 4 ∷ [])
    ∷ (i 1 ∷ o 2 ∷ i 3 ∷ [])
    ∷ (i 1 ∷ o 3 ∷ o 4 ∷ [])
    ∷ (o 1 ∷ i 3 ∷ i 4 ∷ [])
    ∷ (o 1 ∷ o 3 ∷ o 4 ∷ [])
    ∷ []

-- at the fourth lesson places 1 and 3 are freed; they are written next, and the shelf is full; at
-- the last lesson place 4 is a reason, and so place 1 is written over
abbrev pub freed : List Rule
freed =
    (o 3 ∷ o 4 ∷ [])
    ∷ (i 2 ∷ o 3 ∷ i 4 ∷ [])
    ∷ (o 2 ∷ o 3 ∷ i 4 ∷ [])
    ∷ (i 3 ∷ o 4 ∷ [])
    ∷ (o 1 ∷ i 3 ∷ i 4 ∷ [])
    ∷ (i 1 ∷ i 3 ∷ i 4 ∷ [])
    ∷ []

-- with part 3 held out two lessons are written; after its release the next place is still the third
abbrev pub held : List Rule
held =
    (o 2 ∷ i 3 ∷ o 4 ∷ [])
    ∷ (i 2 ∷ o 3 ∷ i 4 ∷ [])
    ∷ (o 1 ∷ i 2 ∷ i 3 ∷ [])
    ∷ (o 2 ∷ o 3 ∷ i 4 ∷ [])
    ∷ (o 3 ∷ o 4 ∷ [])
    ∷ (o 2 ∷ i 3 ∷ i 4 ∷ [])
    ∷ []

abbrev pub after_hold : List Call → Said
after_hold cs = says held (Both 1 1) (hold 3 2 ∷ run_for 50 ∷ release 3 ∷ cs)

abbrev pub sessions : List Case
sessions =
    says over KeepAll (run_for 14 ∷ [])
    ↝ gave working (codes_of 2 2 0 0) 14 4 4
    (four (lesson_of 2 2 0 0) (lesson_of 2 0 2 0) (lesson_of 2 0 0 0) (lesson_of 1 2 0 0))
    ∷ says over KeepAll (run_for 17 ∷ [])
    ↝ gave working (codes_of 2 2 2 0) 17 5 1
    (four (lesson_of 1 0 2 0) (lesson_of 2 0 2 0) (lesson_of 2 0 0 0) (lesson_of 1 2 0 0))
    ∷ says over KeepAll (run_for 17 ∷ run_for 1000 ∷ [])
    ↝ gave fits (codes_of 2 2 2 2) 19 5 1
    (four (lesson_of 1 0 2 0) (lesson_of 2 0 2 0) (lesson_of 2 0 0 0) (lesson_of 1 2 0 0))
    ∷ says freed (Bounded 2) (run_for 12 ∷ [])
    ↝ gave working (codes_of 2 0 0 0) 12 4 4
    (four empty (lesson_of 2 2 0 0) empty (lesson_of 2 0 0 0))
    ∷ says freed (Bounded 2) (run_for 16 ∷ [])
    ↝ gave working (codes_of 2 1 2 0) 16 5 1
    (four (lesson_of 0 2 2 0) (lesson_of 2 2 0 0) empty (lesson_of 2 0 0 0))
    ∷ says freed (Bounded 2) (run_for 18 ∷ [])
    ↝ gave working (codes_of 2 2 0 0) 18 6 3
    (four (lesson_of 0 2 2 0) (lesson_of 2 2 0 0) (lesson_of 1 2 0 0) (lesson_of 2 0 0 0))
    ∷ says freed (Bounded 2) (run_for 21 ∷ [])
    ↝ gave working (codes_of 2 2 2 0) 21 7 1
    (four (lesson_of 0 1 2 0) (lesson_of 2 2 0 0) (lesson_of 1 2 0 0) (lesson_of 2 0 0 0))
    ∷ says freed (Bounded 2) (run_for 12 ∷ run_for 1000 ∷ [])
    ↝ gave (none_fits (codes_of 0 0 0 0)) (codes_of 0 0 0 0) 23 8 1
    (four (lesson_of 0 1 2 0) (lesson_of 2 2 0 0) (lesson_of 1 2 0 0) (lesson_of 2 0 0 0))
    ∷ after_hold []
    ↝ gave working (codes_of 0 0 0 0) 0 0 2
    (four (lesson_of 2 0 1 0) (lesson_of 0 2 1 0) empty empty)
    ∷ after_hold (run_for 9 ∷ [])
    ↝ gave working (codes_of 2 1 2 0) 9 2 4
    (four empty empty (lesson_of 2 0 0 0) (lesson_of 0 2 2 0))
    ∷ after_hold (run_for 1000 ∷ [])
    ↝ gave fits (codes_of 2 2 2 1) 16 4 2
    (four (lesson_of 0 2 0 0) (lesson_of 0 1 2 0) (lesson_of 2 0 0 0) empty)
    ∷ []

-- all of them
abbrev pub cases : List Case
cases = thresholds ++ sweeping ++ placing ++ sessions

-- each says what it must
abbrev pub CasesHold : Type 0
CasesHold = map (λ (c : Case). c.says) cases ≡ map (λ (c : Case). c.wanted) cases
