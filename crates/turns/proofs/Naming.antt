-- The named holds, one by one.
use Rattle.std.proofs.Common.{◌≡◌, ℕ, ◌+◌, ◌-◌, ◌<◌, ◌≤◌, Bool, cond, List, [], ◌∷◌, ◌++◌, filter, length, get_or, replicate, set, take, refl, ap, ◌∙◌, arith}
use Rattle.std.proofs.lemmas.Grind.{common_steps}
use Rattle.std.proofs.lemmas.List.Elements.{filter_more}
use Rattle.parts.specs.Codes.{code_of}
use Rattle.parts.specs.Marks.{opposite_of}
use Rattle.parts.specs.declared.mark.Mark.{Mark}
use Rattle.parts.specs.Rows.{Row, names_mark}
use Rattle.search.specs.Trail.{enter}
use Rattle.search.specs.Machine.{named_holds}
use Rattle.turns.specs.Turning.{with_hold}

enter-append : (c : Row) (r s : List Mark) → enter c (r ++ s) ≡ enter (enter c r) s
unfolding enter
enter-append c [] s = refl
enter-append c (m ∷ r) s = enter-append (set c (m.part - 1) (code_of m.side)) r s

-- one hold more, where it is named and where it is not
one_more : (c : Row) (b : Bool) (m : Mark) → enter c (cond b (m ∷ []) []) ≡ cond b (set c (m.part - 1) (code_of m.side)) c
unfolding enter
one_more c b m = grind arith

pub named_more : (n : ℕ) (c : Row) (hs : List Mark) (i : ℕ) (d : Mark) → i < length hs
    → named_holds n c (take (i + 1) hs) ≡ with_hold c (get_or hs i d) (named_holds n c (take i hs))
unfolding named_holds
named_more n c hs i d h =
    let p = λ (h : Mark). names_mark c (opposite_of h) in
    let x = get_or hs i d in
    ap (enter (replicate n 0)) (filter_more p hs i d h)
    ∙ (enter-append (replicate n 0) (filter p (take i hs)) (cond (p x) (x ∷ []) [])
    ∙ one_more (enter (replicate n 0) (filter p (take i hs))) (p x) x)

pub named_none : (n : ℕ) (c : Row) (hs : List Mark) → named_holds n c (take 0 hs) ≡ replicate n 0
unfolding named_holds enter
named_none n c hs = grind (arith, common_steps)

pub named_all : (n : ℕ) (c : Row) (hs : List Mark) (i : ℕ) → length hs ≤ i → named_holds n c (take i hs) ≡ named_holds n c hs
named_all n c hs i h = grind (arith, common_steps)
