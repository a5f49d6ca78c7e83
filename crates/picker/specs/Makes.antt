-- What the two pickers are seen as.
use Rattle.std.specs.Prelude.{Vec, vec_items}
use Rattle.std.specs.declared.alloc.Global.{Global}
use Rattle.parts.specs.declared.mark.Mark.{Mark}
use Rattle.picker.specs.Meaning.{Picks}
use Rattle.picker.specs.Lowest.{lowest_picks}
use Rattle.picker.specs.Ranking.{ranked_picks}
use Rattle.picker.specs.declared.lowest.Lowest.{Lowest}
use Rattle.picker.specs.declared.ranked.Ranked.{Ranked}

-- what a picker of the lowest open part means
abbrev pub lowest_picker : Lowest → Picks
lowest_picker p = lowest_picks p.n

-- the list that a ranked picker owns
abbrev pub list_of : Ranked → Vec Mark Global
list_of p = p.list

-- what it means
abbrev pub ranked_picker : Ranked → Picks
ranked_picker p = ranked_picks (vec_items p.list)
