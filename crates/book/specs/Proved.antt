-- Nothing in this module needs to be believed: it proves that the makes are sound, which the
-- checker wants beside the definitions.
use Rattle.std.specs.Prelude.{◌≡◌, ℕ, suc, ◌+◌, ◌≤◌, min, IsTrue, true, List, [], ◌∷◌, ◌++◌, length, take, ℤ, ◌==◌, nat_le, refl}
use Rattle.std.proofs.Common.{ap, arith, ◌∙◌, length-append, length-take}
use Rattle.std.proofs.lemmas.Bool.{and_parts, and_from, eqb-true, leb-true, cond_both}
use Rattle.std.proofs.lemmas.List.{append-nil}
use Rattle.std.proofs.lemmas.List.Folds.{list_all-append}
use Rattle.parts.specs.declared.limits.TheConstants.{MOST_PARTS, MOST_RULES, MOST_TEXT_RULES}
use Rattle.parts.specs.declared.mark.Mark.{Mark}
use Rattle.parts.specs.Distinct.{is_distinct}
use Rattle.book.specs.Meaning.{Rule, RuleBook, Sound, sound_rule, sound_rules}
use Rattle.book.specs.Tables.{cut, rising, marks_limit, has_book, book_in}
use Rattle.book.specs.Joining.{joinable, both_rules, joined_rules}

-- a rule of a book is a list of marks of distinct parts: whoever needs no more of it asks for this
pub rule_distinct : (n : ℕ) (r : Rule) → sound_rule n r ≡ true → is_distinct n r ≡ true
rule_distinct n r h = h

-- what `has_book` says, part by part
pub record BookParts (n m : ℕ) (marks : List ℤ) (ends : List ℕ) : Type 0 where
  pub some : 1 ≤ n
  pub few : n ≤ MOST_PARTS
  pub rules_few : m ≤ MOST_TEXT_RULES
  pub rules_ended : m ≤ length ends
  pub rises : IsTrue (rising (marks_limit (length marks)) 0 (take m ends))
  pub rules_sound : IsTrue (sound_rules n (book_in n m marks ends).rules)

pub book_parts : (n m : ℕ) (marks : List ℤ) (ends : List ℕ) → has_book n m marks ends ≡ true
    → BookParts n m marks ends
book_parts n m marks ends h =
    let p = and_parts _ _ h in
    let q = and_parts _ _ p.0 in
    let parts = and_parts _ _ q.0 in
    let rules = and_parts _ _ q.1 in
    let table = and_parts _ _ p.1 in
    record {
      some = leb-true 1 n parts.0;
      few = leb-true n MOST_PARTS parts.1;
      rules_few = leb-true m MOST_TEXT_RULES rules.0;
      rules_ended = leb-true m (length ends) rules.1;
      rises = table.0;
      rules_sound = table.1;
    }

pub length-cut : (from : ℕ) (es : List ℕ) (ms : List Mark) → length (cut from es ms) ≡ length es
length-cut from [] ms = refl
length-cut from (e ∷ es) ms = ap suc (length-cut e es ms)

pub book_in_sound : (n m : ℕ) (marks : List ℤ) (ends : List ℕ) → has_book n m marks ends ≡ true
    → Sound (book_in n m marks ends)
book_in_sound n m marks ends h =
    let l = book_parts n m marks ends h in
    record {
      some = l.some;
      few = l.few;
      rules_few = simp (length-cut, length-take) (omega arith);
      rules_sound = l.rules_sound;
    }

pub sound_rules-append : (n : ℕ) (rs ss : List Rule) → sound_rules n rs ≡ true
    → sound_rules n ss ≡ true → sound_rules n (rs ++ ss) ≡ true
sound_rules-append n rs ss h k = list_all-append (sound_rule n) rs ss ∙ and_from _ _ h k

pub both_sound : (f s : RuleBook) → joinable f s ≡ true → Sound f → Sound s
    → Sound (both_rules f s)
both_sound f s h p q =
    let j = and_parts (f.n == s.n) (nat_le (length f.rules + length s.rules) MOST_RULES) h in
    let e = eqb-true f.n s.n j.0 in
    record {
      some = p.some;
      few = p.few;
      rules_few = rw length-append (leb-true (length f.rules + length s.rules) MOST_RULES j.1);
      rules_sound = sound_rules-append f.n f.rules s.rules p.rules_sound (rw e q.rules_sound);
    }

first_sound : (f : RuleBook) → Sound f → Sound (record { n = f.n; rules = f.rules ++ [] })
first_sound f p =
    record {
      some = p.some;
      few = p.few;
      rules_few = rw append-nil p.rules_few;
      rules_sound = rw append-nil p.rules_sound;
    }

pub joined_sound : (f s : RuleBook) → Sound f → Sound s → Sound (joined_rules f s)
joined_sound f s p q =
    cond_both (joinable f s) s.rules [] (λ rs. Sound (record { n = f.n; rules = f.rules ++ rs }))
    (λ h. both_sound f s h p q)
    (λ _. first_sound f p)
