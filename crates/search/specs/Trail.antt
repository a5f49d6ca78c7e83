-- The trail, the settled row, and how marks and rules stand under it.
use Rattle.std.specs.Prelude.{ℕ, ◌-◌, Bool, true, false, if◌then◌else◌, ◌&&◌, List, [], ◌∷◌, map, Some, None, Option, ◌==◌, is_some, slice_index, slice_set}
use Rattle.std.specs.List.{find, range_with_len}
use Rattle.std.specs.Option.{option_and_then, option_map}
use Rattle.parts.specs.Codes.{code_of}
use Rattle.parts.specs.Rows.{Row}
use Rattle.parts.specs.declared.mark.Mark.{Mark}
use Rattle.parts.specs.declared.side.Side.{Side}
use Rattle.book.specs.Meaning.{Rule}
use Rattle.search.specs.declared.entry.Entry.{Entry}
use Rattle.search.specs.declared.entry.Kind.{Kind}
use Rattle.search.specs.declared.entry.Kind.TheVariants.{Held, Picked, Forced}
use Rattle.search.specs.declared.reason.Reason.{Reason}

-- the settled parts, the newest entry first
abbrev pub Trail : Type 0
Trail = List Entry

-- the entry that settles a part
abbrev pub entry_of : Trail → ℕ → Option Entry
entry_of t p = find (λ e. e.mark.part == p) t

-- the side on which the trail settles a part
unfoldable pub settled : Trail → ℕ → Option Side
settled t p = option_map (λ e. e.mark.side) (entry_of t p)

-- why a part is forced
abbrev pub reason_in : Kind → Option Reason
reason_in Held = None
reason_in Picked = None
reason_in (Forced r) = Some r

unfoldable pub reason_of : Trail → ℕ → Option Reason
reason_of t p = option_and_then (λ e. reason_in e.kind) (entry_of t p)

abbrev pub code : Option Side → ℕ
code None = 0
code (Some s) = code_of s

-- the settled row of n parts: a code for each, 0 where it is open
unfoldable pub row : ℕ → Trail → Row
row n t = map (λ p. code (settled t p)) (range_with_len 1 n)

-- A mark is true when its part is settled on its side, false when on the other, else open.
pub data Truth : Type 0 where
  is_true : Truth
  is_false : Truth
  is_open : Truth

abbrev pub truth_by : ℕ → Side → Truth
truth_by c s = if c == 0 then is_open else (if c == code_of s then is_true else is_false)

abbrev pub truth : Row → Mark → Truth
truth row m = truth_by (slice_index row (m.part - 1)) m.side

abbrev pub says_false : Truth → Bool
says_false is_true = false
says_false is_false = true
says_false is_open = false

-- a hold that is settled on the other side for a reason, and the reason of the earliest one
abbrev pub is_crossed : Row → Trail → Mark → Bool
is_crossed now t h = says_false (truth now h) && is_some (reason_of t h.part)

abbrev pub reason_of_crossed : Row → Trail → List Mark → Option Reason
reason_of_crossed now t hs =
    option_and_then (λ h. reason_of t h.part) (find (is_crossed now t) hs)

abbrev pub says_open : Truth → Bool
says_open is_true = false
says_open is_false = false
says_open is_open = true

-- A rule is broken when all marks are false, pressing when all but one are and that one is open.
pub data State : Type 0 where
  broken : State
  pressing : Mark → State
  quiet : State

-- one mark before a rule in that state
abbrev pub weigh : Truth → Mark → State → State
weigh is_false m s = s
weigh is_true m s = quiet
weigh is_open m broken = pressing m
weigh is_open m (pressing x) = quiet
weigh is_open m quiet = quiet

abbrev pub state : Row → Rule → State
state row [] = broken
state row (m ∷ r) = weigh (truth row m) m (state row r)

-- the row with the marks of a rule written in, and the row without a part
unfoldable pub enter : Row → Rule → Row
enter c [] = c
enter c (m ∷ r) = enter (slice_set c (m.part - 1) (code_of m.side)) r

unfoldable pub leave : ℕ → Row → Row
leave p c = slice_set c (p - 1) 0
