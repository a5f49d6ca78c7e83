-- The place written is no reason on the trail; no reason is forgotten.
use Rattle.std.proofs.Common.{◌≡◌, ℕ, zero, suc, ◌+◌, ◌-◌, ◌<◌, ◌≤◌, Bool, true, false, not, ◌≢◌, ◌⊎◌, List, [], ◌∷◌, length, set, Some, None, Option, refl, inl, inr, arith}
use Rattle.std.specs.List.{find, list_all, range_with_len, slice_get}
use Rattle.std.specs.Option.{option_or}
use Rattle.std.proofs.lemmas.Bool.{cases_Bool}
use Rattle.std.proofs.lemmas.Bool.Decides.{nat_tests}
use Rattle.std.proofs.lemmas.Grind.{common_steps}
use Rattle.std.proofs.lemmas.List.Folds.{find-append}
use Rattle.std.proofs.lemmas.List.Recursion.{and_set}
use Rattle.parts.specs.Codes.{is_row}
use Rattle.parts.specs.Lists.{at_place}
use Rattle.parts.specs.Rows.{Row, row_marks}
use Rattle.parts.specs.declared.mark.Mark.{Mark}
use Rattle.parts.proofs.Among.{Among, among_left, among_right, among_either, any_among, among_any}
use Rattle.parts.proofs.Tally.{tally, tally_none, tally_most, tally_free}
use Rattle.book.specs.Meaning.{Rule}
use Rattle.shelf.specs.Meaning.{sound_place}
use Rattle.search.specs.declared.forgetting.Forgetting.{Forgetting}
use Rattle.search.specs.declared.entry.Entry.{Entry}
use Rattle.search.specs.declared.entry.Kind.{Kind}
use Rattle.search.specs.declared.entry.Kind.TheVariants.{Forced}
use Rattle.search.specs.declared.reason.Reason.{Reason}
use Rattle.search.specs.declared.reason.Reason.TheVariants.{Book, Shelf}
use Rattle.search.specs.Trail.{Trail}
use Rattle.search.specs.Places.{IsPlace, IsEmpty, IsReason, IsMetBefore, NoneEmpty, NextPlaceIs, NoPlaceLeft, NextPlaceOf, PlacesAreNext}
use Rattle.search.specs.Machine.{Places, rule_at, by_place, needed, drops, is_empty, around, next_place, sweep}
use Rattle.search.proofs.Basics.{among_range, range_among, find_some, find_none, item_set, place_within}
use Rattle.search.proofs.Invariant.{Sound}

-- the places in their round are 1 to k
pub among_around : (last k p : ℕ) → last ≤ k → 1 ≤ p → p ≤ k → Among p (around last k)
unfolding around
among_around last k p l a b =
    let after = range_with_len (last + 1) (k - last) in
    let before = range_with_len 1 last in
    grind (arith, among_left after before p, among_right after before p, among_range (last + 1) (k - last) p, among_range 1 last p)

pub around_among : (last k p : ℕ) → last ≤ k → Among p (around last k) → (1 ≤ p) × (p ≤ k)
unfolding around
around_among last k p l h =
    grind (arith, among_either (range_with_len (last + 1) (k - last)) (range_with_len 1 last) p h, range_among (last + 1) (k - last) p, range_among 1 last p)

-- the places that are reasons are at most as many as the entries
place_other : (k : Kind) → (x : ℕ) × ((p : ℕ) → p ≢ x → by_place p k ≡ false)
place_other (Forced (Shelf j)) = (j, λ p n. grind arith)
place_other k = (0, λ p n. grind arith)

pub needed_tally : (t : Trail) (k : ℕ) → tally (needed t) 1 k ≤ length t
unfolding needed
needed_tally [] k = omega (arith, tally_none (needed []) 1 k (λ p. refl))
needed_tally (e ∷ t) k =
    let (x, other) = place_other e.kind in
    let most = tally_most (needed t) (needed (e ∷ t)) x 1 k (λ p n. rw (other p n)) in
    omega (arith, most, needed_tally t k)

-- a place that is a reason holds a lesson
pub needed_rule : (n : ℕ) (hs : Rule) (at : Reason → Option Rule) (t : Trail) (i : ℕ) → Sound n hs at t → needed t i ≡ true → (R : Rule) × (at (Shelf i) ≡ Some R)
unfolding needed
needed_rule n hs at [] i s h = grind arith
needed_rule n hs at (e ∷ t) i s h = grind (arith, needed_rule n hs at t i s.3)

-- a place of the shelf that is no reason on the trail
abbrev pub Free : Places → Trail → ℕ → Type 0
Free s t i = (1 ≤ i) × (i ≤ length s) × (needed t i ≡ false)

-- there is a place to write, and it is no reason on the trail
pub next_place_free : (n : ℕ) (hs : Rule) (rs : List Rule) (s : Places) (last : ℕ) (t : Trail) → Sound n hs (rule_at rs s) t
    → length t < n → n ≤ length s → last ≤ length s → (i : ℕ) × (next_place s last t ≡ Some i) × Free s t i
unfolding next_place rule_at
next_place_free n hs rs s last t sd short room back = go (find empty round) (find free round) refl refl
  where
    round : List ℕ
    round = around last (length s)

    empty : ℕ → Bool
    empty i = is_empty (at_place s i)

    free : ℕ → Bool
    free i = not (needed t i)

    found : (q : ℕ → Bool) (i : ℕ) → find q round ≡ Some i → (1 ≤ i) × (i ≤ length s) × (q i ≡ true)
    found q i h = grind (arith, find_some q round i h, around_among last (length s) i back)

    go : (a b : Option ℕ) → find empty round ≡ a → find free round ≡ b → (i : ℕ) × (option_or a b ≡ Some i) × Free s t i
    go (Some i) b ea eb = (i, refl, grind (arith, found empty i ea, needed_rule n hs (rule_at rs s) t i sd))
    go None (Some i) ea eb = (i, refl, grind (arith, found free i eb))
    go None None ea eb =
        let (p, q, l, u) = tally_free (needed t) 1 (length s) (omega (arith, needed_tally t (length s))) in
        let x = find_none free round eb p (among_around last (length s) p back l (omega arith)) in
        absurd (grind arith)

-- The place written, in words.
-- on a range the one found is the first that passes
range_first : (q : ℕ → Bool) (a k i : ℕ) → find q (range_with_len a k) ≡ Some i → (j : ℕ) → a ≤ j → j < i → q j ≡ false
range_first q a zero i h j l u = absurd (grind arith)
range_first q a (suc k) i h j l u = grind (arith, range_first q (a + 1) k i)

-- and so it is going round
around_first : (q : ℕ → Bool) (last k i : ℕ) → last ≤ k → find q (around last k) ≡ Some i → (j : ℕ) → 1 ≤ j → j ≤ k → IsMetBefore last j i → q j ≡ false
unfolding around
around_first q last k i b h j l u m = go (find q after) (find q before) refl refl (rw (find-append q after before) at h)
  where
    after : List ℕ
    after = range_with_len (last + 1) (k - last)

    before : List ℕ
    before = range_with_len 1 last

    go : (x y : Option ℕ) → find q after ≡ x → find q before ≡ y → option_or x y ≡ Some i → q j ≡ false
    go (Some x) y ex ey e =
        let r = range_among (last + 1) (k - last) i (find_some q after i (cc)).0 in
        range_first q (last + 1) (k - last) i (cc) j (omega (arith, r, m)) (omega (arith, r, m))
    go None y ex ey e =
        let r = range_among 1 last i (find_some q before i (cc)).0 in
        grind (arith, r, m, range_first q 1 last i (cc) j l, find_none q after ex j, among_range (last + 1) (k - last) j)

by_reason : (i : ℕ) (k : Kind) → by_place i k ≡ true → k ≡ Forced (Shelf i)
by_reason i k h = grind (arith, nat_tests)

reason_by : (i : ℕ) (k : Kind) → k ≡ Forced (Shelf i) → by_place i k ≡ true
reason_by i k h = grind (arith, nat_tests)

-- the test of a reason, and what it says
needed_among : (t : Trail) (i : ℕ) → needed t i ≡ true → (e : Entry) × Among e t × (e.kind ≡ Forced (Shelf i))
unfolding needed
needed_among [] i h = absurd (grind arith)
needed_among (e ∷ t) i h =
    elim (cases_Bool (by_place i e.kind)) [
      | inl y ↦ (e, inl refl, by_reason i e.kind y)
      | inr n ↦ let (d, j, k) = needed_among t i (grind arith) in (d, inr j, k)
    ]

among_needed : (t : Trail) (i : ℕ) (e : Entry) → Among e t → e.kind ≡ Forced (Shelf i) → needed t i ≡ true
unfolding needed
among_needed [] i e j k = absurd j
among_needed (d ∷ t) i e j k = grind (arith, reason_by i d.kind, among_needed t i e)

needed_any : (t : Trail) (i : ℕ) → needed t i ≡ true → IsReason t i
needed_any t i h = let (e, j, k) = needed_among t i h in among_any (λ e. e.kind ≡ Forced (Shelf i)) t e j k

any_needed : (t : Trail) (i : ℕ) → IsReason t i → needed t i ≡ true
any_needed t i h = let (e, j, k) = any_among (λ e. e.kind ≡ Forced (Shelf i)) t h in among_needed t i e j k

-- what the test of an empty place says
place_empty : (s : Places) (i : ℕ) → is_empty (at_place s i) ≡ true → IsEmpty s i
place_empty s i h = by_item (at_place s i) h
  where
    by_item : (o : Option (Option Row)) → is_empty o ≡ true → o ≡ Some None
    by_item o h = grind arith

module _ (s : Places) (last : ℕ) (t : Trail) (back : last ≤ length s) where
  abbrev round : List ℕ
  round = around last (length s)

  abbrev empty : ℕ → Bool
  empty i = is_empty (at_place s i)

  abbrev free : ℕ → Bool
  free i = not (needed t i)

  -- where no place is found empty, none is
  none_empty : find empty round ≡ None → NoneEmpty s
  none_empty h j e =
      let r = place_within s j None e in
      let no : empty j ≡ false = find_none empty round h j (among_around last (length s) j back r.0 r.1) in
      absurd (grind arith)

  -- and where none is found free, each is a reason
  all_reasons : find free round ≡ None → (j : ℕ) → IsPlace s j → IsReason t j
  all_reasons h j p =
      let no : free j ≡ false = find_none free round h j (among_around last (length s) j back p.first p.last) in
      needed_any t j (grind arith)

  place_of : (q : ℕ → Bool) (i : ℕ) → find q round ≡ Some i → IsPlace s i × (q i ≡ true)
  place_of q i h =
      let (a, y) = find_some q round i h in
      let r = around_among last (length s) i back a in
      (record { first = r.0; last = r.1 }, y)

  place_next : (a b : Option ℕ) → find empty round ≡ a → find free round ≡ b → (i : ℕ) → option_or a b ≡ Some i → NextPlaceIs s last t i
  place_next (Some x) b ea eb i e =
      let is : find empty round ≡ Some i = cc in
      let (p, y) = place_of empty i is in
      let here = place_empty s i y in
      record {
        place = p;
        empty = λ j k. here;
        first_empty = λ j k m.
            let r = place_within s j None k in
            let no : empty j ≡ false = around_first empty last (length s) i back is j r.0 r.1 m in
            absurd (grind arith);
        no_reason = λ none. absurd (none i here);
        first_free = λ none. absurd (none i here);
      }
  place_next None b ea eb i e =
      let is : find free round ≡ Some i = cc in
      let (p, y) = place_of free i is in
      record {
        place = p;
        empty = λ j k. absurd (none_empty ea j k);
        first_empty = λ j k. absurd (none_empty ea j k);
        no_reason = λ none r. absurd (grind (arith, any_needed t i r));
        first_free = λ none j q m.
            let no : free j ≡ false = around_first free last (length s) i back is j q.first q.last m in
            needed_any t j (grind arith);
      }

  place_left : (a b : Option ℕ) → find empty round ≡ a → find free round ≡ b → option_or a b ≡ None → NoPlaceLeft s t
  place_left (Some x) b ea eb e = absurd (cc)
  place_left None (Some y) ea eb e = absurd (cc)
  place_left None None ea eb e = record { none_empty = none_empty ea; all_reasons = all_reasons eb }

  next_place_of : NextPlaceOf s last t
  unfolding next_place
  next_place_of = record { some = place_next _ _ refl refl; none = place_left _ _ refl refl }

pub places_are_next : PlacesAreNext
places_are_next s last t back = next_place_of s last t back

-- reasons on the trail
abbrev pub On : Reason → Trail → Type 0
On r [] = ⊥
On r (e ∷ t) = (e.kind ≡ Forced r) ⊎ On r t

pub on_needed : (t : Trail) (i : ℕ) → On (Shelf i) t → needed t i ≡ true
unfolding needed
on_needed [] i h = absurd h
on_needed (e ∷ t) i h = grind (arith, on_needed t i)

-- a trail stays sound where the rules of its reasons stay
pub sound_move : (n : ℕ) (hs : Rule) (at at' : Reason → Option Rule) (t : Trail) → ((r : Reason) → On r t → at' r ≡ at r) → Sound n hs at t → Sound n hs at' t
sound_move n hs at at' [] h s = tt
sound_move n hs at at' (e ∷ t) h s = grind (arith, h, sound_move n hs at at' t (λ r j. h r (inr j)))

-- forgetting keeps the reasons on the trail, and adds nothing
module _ (f : Forgetting) (now : Row) where
  pub sweep_length : (t : Trail) (i : ℕ) (s : Places) → length (sweep f now t i s) ≡ length s
  unfolding sweep
  sweep_length t i [] = refl
  sweep_length t i (p ∷ s) = grind (arith, sweep_length t (i + 1) s)

  pub sweep_kept : (t : Trail) (i : ℕ) (s : Places) (j : ℕ) → needed t (i + j) ≡ true → slice_get (sweep f now t i s) j ≡ slice_get s j
  unfolding sweep drops
  sweep_kept t i [] j h = refl
  sweep_kept t i (p ∷ s) zero h = grind arith
  sweep_kept t i (p ∷ s) (suc j) h = grind (arith, sweep_kept t (i + 1) s j)

  pub sweep_some : (t : Trail) (i : ℕ) (s : Places) (j : ℕ) (r : Row) → slice_get (sweep f now t i s) j ≡ Some (Some r) → slice_get s j ≡ Some (Some r)
  unfolding sweep
  sweep_some t i [] j r h = h
  sweep_some t i (p ∷ s) zero r h = grind arith
  sweep_some t i (p ∷ s) (suc j) r h = grind (arith, sweep_some t (i + 1) s j r)

  pub sweep_sound : (n : ℕ) (t : Trail) (i : ℕ) (s : Places) → list_all (sound_place n) s ≡ true → list_all (sound_place n) (sweep f now t i s) ≡ true
  unfolding sweep
  sweep_sound n t i [] h = refl
  sweep_sound n t i (p ∷ s) h = grind (arith, sweep_sound n t (i + 1) s)

  module _ (rs : List Rule) (s : Places) (t : Trail) (x : Mark) (i : ℕ) (v : Row) where
    abbrev u : Trail
    u = record { mark = x; kind = Forced (Shelf i) } ∷ t

    -- the shelf after a lesson is written in a free place i and others are forgotten
    abbrev pub after : Places
    after = sweep f now u 1 (set s (i - 1) (Some v))

    -- the new lesson stands, the reasons on the trail stay, and nothing else comes
    pub after_new : Free s t i → rule_at rs after (Shelf i) ≡ Some (row_marks v)
    unfolding rule_at
    after_new fr = grind (arith, item_set, sweep_kept u 1 (set s (i - 1) (Some v)), on_needed u i)

    pub after_old : Free s t i → (r : Reason) → On r t → rule_at rs after r ≡ rule_at rs s r
    unfolding rule_at
    after_old fr (Book j) o = refl
    after_old fr (Shelf j) o = grind (arith, item_set, sweep_kept u 1 (set s (i - 1) (Some v)), on_needed u j, on_needed t j)

    pub after_rule : Free s t i → (r : Reason) (R : Rule) → rule_at rs after r ≡ Some R → (rule_at rs s r ≡ Some R) ⊎ (row_marks v ≡ R)
    unfolding rule_at
    after_rule fr (Book j) R h = inl h
    after_rule fr (Shelf j) R h = grind (arith, item_set, sweep_some u 1 (set s (i - 1) (Some v)))

    pub after_length : length after ≡ length s
    after_length = grind (arith, common_steps, sweep_length u 1 (set s (i - 1) (Some v)))

    pub after_sound : (n : ℕ) → list_all (sound_place n) s ≡ true → is_row n v ≡ true → list_all (sound_place n) after ≡ true
    after_sound n h l = sweep_sound n u 1 _ (and_set (list_all (sound_place n)) (sound_place n) refl (λ x xs. refl) s (i - 1) (Some v) l h)
