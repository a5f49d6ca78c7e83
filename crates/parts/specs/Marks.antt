-- Marks: a part and the side that it is put on.
use Rattle.std.specs.Prelude.{ℕ, suc, ℤ, pos, negsuc, neg_ℤ}
use Rattle.parts.specs.declared.mark.Mark.{Mark}
use Rattle.parts.specs.declared.side.Side.{Side}
use Rattle.parts.specs.declared.side.Side.TheVariants.{In, Out}

-- 7 is part 7 in, -7 is part 7 out
abbrev pub mark_from : ℤ → Mark
mark_from (pos p) = record { part = p; side = In }
mark_from (negsuc p) = record { part = suc p; side = Out }

abbrev pub on_side : Side → ℕ → ℤ
on_side In p = pos p
on_side Out p = neg_ℤ (pos p)

abbrev pub number_from : Mark → ℤ
number_from m = on_side m.side m.part

abbrev pub other_side : Side → Side
other_side In = Out
other_side Out = In

-- the mark of the same part on the other side
abbrev pub opposite_of : Mark → Mark
opposite_of m = record { part = m.part; side = other_side m.side }
