-- The lines of a text are those of the grammar.
use Rattle.std.proofs.Common.{◌≡◌, refl, ℕ, ◌+◌, eqb, List, [], ◌∷◌, ◌++◌, map, length, inl, inr, arith}
use Rattle.std.specs.List.{AllByRecursion}
use Rattle.std.proofs.lemmas.Bool.{cond_both}
use Rattle.std.proofs.lemmas.Bool.Decides.{nat_tests}
use Rattle.text.specs.Pieces.{Piece, grown, lines}
use Rattle.text.specs.Layout.{Inline, Lines}
use Rattle.text.specs.Views.{lines_left}
use Rattle.text.specs.declared.lines.Lines.{Lines as Read}

-- the bytes of pieces, wherever they stand
abbrev pub bytes_of : List Piece → List (List ℕ)
bytes_of ps = map (λ (p : Piece). p.bytes) ps

-- a line that is ended by a line feed is the first line
pub lines_feed : (p : ℕ) (l rest : List ℕ) → AllByRecursion Inline l → lines p (l ++ 10 ∷ rest) ≡ record { at = p; bytes = l } ∷ lines (p + length l + 1) rest
lines_feed p [] rest h = grind arith
lines_feed p (b ∷ l) rest h = grind (arith, nat_tests, lines_feed (p + 1) l rest)

-- the last line may lack its line feed
pub lines_last : (p : ℕ) (l : List ℕ) → AllByRecursion Inline l → (l ≡ [] → ⊥) → lines p l ≡ record { at = p; bytes = l } ∷ []
lines_last p [] h some = absurd (some refl)
lines_last p (b ∷ []) h some = grind (arith, nat_tests)
lines_last p (b ∷ c ∷ l) h some = grind (arith, nat_tests, lines_last (p + 1) (c ∷ l))

-- a text of these lines has just these lines
pub lines_are : (p : ℕ) (ls : List (List ℕ)) (text : List ℕ) → Lines ls text → bytes_of (lines p text) ≡ ls
lines_are p [] text h = rw h
lines_are p (l ∷ ls) text h = grind (arith, h.1, lines_feed p l, lines_last p l, lines_are (p + length l + 1) ls)

grows : (b p : ℕ) (bs : List ℕ) (ps : List Piece) → Inline b → Lines (bytes_of ps) bs → Lines (bytes_of (grown b p ps)) (b ∷ bs)
grows b p bs [] i h = ((i, tt), inr (cc, refl, λ e. cc))
grows b p bs (q ∷ ps) i h = grind (arith, i, h)

-- each text is one of its lines
pub lines_of : (p : ℕ) (text : List ℕ) → Lines (bytes_of (lines p text)) text
lines_of p [] = refl
lines_of p (b ∷ bs) =
    cond_both (eqb b 10) _ _ (λ ps. Lines (bytes_of ps) (b ∷ bs))
    (λ e. (tt, inl (bs, grind (arith, nat_tests), lines_of (p + 1) bs)))
    (λ e. grows b p bs (lines (p + 1) bs) (λ k. grind (arith, nat_tests)) (lines_of (p + 1) bs))

pub lines_inline : (ls : List (List ℕ)) (text : List ℕ) → Lines ls text → AllByRecursion (AllByRecursion Inline) ls
lines_inline [] text h = tt
lines_inline (l ∷ ls) text h = grind (arith, lines_inline ls)

-- the lines that are left of a text have no line feed
pub left_inline : (l : Read) → AllByRecursion (AllByRecursion Inline) (bytes_of (lines_left l))
left_inline l = lines_inline _ l.rest.now (lines_of l.at l.rest.now)
