-- Lines and fields by the runs of bytes that they are made of.
use Rattle.std.proofs.Common.{◌≡◌, ℕ, Bool, false, List, length, Option, ◌∙◌, ◌+◌, ◌-◌, ◌<◌, ◌≤◌, true, not, eqb, [], ◌∷◌, take, drop, refl, ap, ⊎_elim, arith}
use denote.Param.Members.{Mut}
use denote.Ref.{Bor}
use Rattle.std.specs.List.{prefix_len, between}
use Rattle.std.specs.Fn.{CalledAt}
use Rattle.std.specs.Iterator.{Drains}
use Rattle.std.specs.Iterator.Adapters.{take_while_source, take_while_done, take_while_callee, take_while_steps}
use Rattle.std.proofs.lemmas.Iterator.{YieldsList}
use Rattle.std.proofs.lemmas.Iterator.Consumers.{count_from_yields_List}
use Rattle.std.proofs.lemmas.Iterator.Search.{YieldsList-from_take_while}
use Rattle.std.proofs.lemmas.List.Folds.{length-prefix_len}
use Rattle.std.proofs.lemmas.List.{length-drop, nil_from_length, take_rest}
use Rattle.std.proofs.lemmas.Bool.{cases_Bool, cond-true, cond-false}
use Rattle.text.specs.Pieces.{Piece, grown, blank, goes_on, lines, fields}

-- a byte of a line
abbrev pub inline : ℕ → Bool
inline b = not (eqb b 10)

-- a byte of a field
abbrev pub inner : ℕ → Bool
inner b = not (blank b)

-- How many items an iterator's take_while gives, by the list that it walks along.
pub leading : {S A F : Type 0} {steps : S → Option A → S → Type 0} {v : A → ℕ} {bs : List ℕ} {s : _} (g : Mut F (Bor A × Unit {0}) Bool) (test : ℕ → Bool) {f : F} (r : ℕ)
    → ((xs : List A) × Drains (take_while_steps steps g) s xs × (r ≡ length xs)) → YieldsList steps v (take_while_source s) bs → take_while_callee s ≡ f → take_while_done s ≡ false
    → ((x : A) (b : Bool) (q : F) → CalledAt g f x b q → (q ≡ f) × (b ≡ test (v x))) → r ≡ prefix_len test bs
leading {bs} {s} g test r ran walks callee done calls = count_from_yields_List s r ran (YieldsList-from_take_while g test walks callee done calls) ∙ length-prefix_len test bs

-- the first n bytes as a piece
abbrev pub front : ℕ → ℕ → List ℕ → Piece
front at n bs = record { at = at; bytes = take n bs }

-- one byte more before a piece that goes on
joined : (f : ℕ → List ℕ → List Piece) (at b n : ℕ) (bs : List ℕ) {ps : List Piece} → ps ≡ front (at + 1) n bs ∷ f (at + 1 + n) (drop n bs) → grown b at ps ≡ front at (1 + n) (b ∷ bs) ∷ f (at + (1 + n)) (drop (1 + n) (b ∷ bs))
joined f at b n bs e = grind arith

-- what follows a line, from its end on
abbrev pub next_lines : ℕ → List ℕ → List Piece
next_lines end rest = lines (end + 1) (drop 1 rest)

-- blanks before a field are passed
pub blank_run : (at : ℕ) (bs : List ℕ) → fields at bs ≡ fields (at + prefix_len blank bs) (drop (prefix_len blank bs) bs)
blank_run at [] = refl
blank_run at (b ∷ bs) =
    ⊎_elim (λ (e : blank b ≡ true). rw e (grind (arith, blank_run (at + 1) bs))) (λ (e : blank b ≡ false). rw e (grind arith)) (cases_Bool (blank b))

-- a field goes up to the next blank
pub field_run : (at b : ℕ) (bs : List ℕ) → blank b ≡ false →
    let n = prefix_len inner (b ∷ bs) in
    fields at (b ∷ bs) ≡ front at n (b ∷ bs) ∷ fields (at + n) (drop n (b ∷ bs))
field_run at b [] e = grind arith
field_run at b (d ∷ bs) e =
    ⊎_elim
    (λ (f : blank d ≡ true). let z : prefix_len inner (d ∷ bs) ≡ 0 = rw f refl in rw e (cond-false (not (blank d)) _ _ (ap not f) ∙ rw z refl))
    (λ (f : blank d ≡ false). rw e (cond-true (not (blank d)) _ _ (ap not f) ∙ joined fields at b _ (d ∷ bs) (field_run (at + 1) d bs f)))
    (cases_Bool (blank d))

-- a field begins here
pub begun : (at : ℕ) (bs : List ℕ) → goes_on bs ≡ true → let n = prefix_len inner bs in fields at bs ≡ front at n bs ∷ fields (at + n) (drop n bs)
begun at [] e = grind arith
begun at (b ∷ bs) e = grind (arith, field_run at b bs)

-- a text that is not over begins with a line, which goes up to its feed
pub line_run : (at : ℕ) (bs : List ℕ) → 0 < length bs → let n = prefix_len inline bs in lines at bs ≡ front at n bs ∷ next_lines (at + n) (drop n bs)
line_run at [] h = absurd (omega arith)
line_run at (b ∷ []) h = grind arith
line_run at (b ∷ d ∷ bs) h =
    ⊎_elim (λ (e : eqb b 10 ≡ true). rw e (grind arith)) (λ (e : eqb b 10 ≡ false). rw e (joined next_lines at b _ (d ∷ bs) (line_run (at + 1) (d ∷ bs) (omega arith)))) (cases_Bool (eqb b 10))

-- what is left after a line of n bytes, where a line feed ends it, and where the text does
module _ (at n : ℕ) (bs after rest : List ℕ) (is : after ≡ drop n bs) (long : length after + n ≡ length bs) where
  pub after_feed : 1 ≤ length after → rest ≡ between 1 (length after) after → lines (at + (length bs - length rest)) rest ≡ next_lines (at + n) (drop n bs)
  after_feed h e = grind (arith, take_rest after 1, length-drop 1 after)

  pub after_last : length after < 1 → rest ≡ after → lines (at + (length bs - length rest)) rest ≡ next_lines (at + n) (drop n bs)
  after_last h e = grind (arith, nil_from_length after)
