-- The fault of a text is the first: what follows it does not change it, and up to there a text can go on to a book.
use Rattle.std.proofs.Common.{◌≡◌, ◌≢◌, ℕ, eqb, leb, ltb, ◌||◌, Bool, true, None, Option, ◌+◌, ◌-◌, ◌<◌, ◌≤◌, List, [], ◌∷◌, ◌++◌, length, take, drop, get_or, Some, Ok, Err, codes, Result, refl, sym, ap, ◌∙◌, inl, inr, arith, ◌⊎◌, IsErr, IsOk, append-nil, append_assoc, length-append, length-drop}
use Rattle.std.specs.List.{AllByRecursion}
use Rattle.std.specs.Str.{bytes_eq}
use Rattle.std.proofs.lemmas.List.{length-take-le, take-append-drop}
use Rattle.std.proofs.lemmas.Bool.{cases_Bool}
use Rattle.std.proofs.lemmas.Bool.Decides.{nat_tests}
use Rattle.std.proofs.lemmas.Slice.Eq.{bytes_eq-Decides}
use Rattle.parts.specs.declared.fault.Fault.{Fault}
use Rattle.parts.specs.declared.limits.TheConstants.{MOST_PARTS, MOST_TEXT_BYTES, MOST_TEXT_MARKS, MOST_TEXT_RULES}
use Rattle.parts.specs.declared.refusal.Refusal.TheVariants.{TextTooLong, NoHead, SizeOutOfRange, RuleCount}
use Rattle.text.specs.Numbers.{number}
use Rattle.text.specs.Pieces.{Piece, lines, fields}
use Rattle.text.specs.Layout.{Blank, Inline, Field, EndsField, EndsLine, Fields, Lines}
use Rattle.text.proofs.Each.{each_append}
use Rattle.text.proofs.LineLaws.{bytes_of, lines_feed, lines_last, lines_of}
use Rattle.text.proofs.FieldLaws.{fields_blank, fields_of}
use Rattle.text.proofs.Cuts.{InLine, after_word, first_line, fields_word, SomeField, starts_blank}
use Rattle.book.specs.Meaning.{RuleBook, Rule}
use Rattle.grammar.specs.declared.Size.{Size}
use Rattle.grammar.specs.Law.{FaultIsFirst, RefusingIsFirst, may_name}
use Rattle.grammar.specs.Law.Named.{excess, field, line, text_end}
use Rattle.grammar.specs.Reading.{counted, counted_fields, fault_at, size_of, head_of, rules_of, book_of, from_head, lines_read, read_of}
use Rattle.grammar.proofs.Accepted.{from_size, room_of, Heads, head_to}
use Rattle.grammar.proofs.RuleFaults.{piece, full_room}
use Rattle.grammar.proofs.CutLaws.{Cut, cut_after, in_cut, plain_counted, counted_plain, some_byte, is_err, zeros}
use Rattle.grammar.proofs.RestFaults.{zeros_pass, rest_fault}
use Rattle.grammar.proofs.HeadFaults.{head_fault, NoSize, SomeSize, size_fault}

module _ (marks ends : ℕ) where
  -- the text is refused, and reads as a book, wherever it ends
  abbrev NoBook : ℕ → List ℕ → Type 0
  NoBook p t = (e : ℕ) → IsErr (from_head marks ends e (lines p t))

  abbrev SomeBook : ℕ → List ℕ → Type 0
  SomeBook p t = (e : ℕ) → IsOk (from_head MOST_TEXT_MARKS MOST_TEXT_RULES e (lines p t))

  -- how a text goes on behind a line, by the fields of that line that count
  abbrev from_fields : ℕ → Piece → List Piece → List Piece → Result RuleBook Fault
  from_fields e l ls [] = from_head marks ends e ls
  from_fields e l ls (f ∷ fs) = from_size marks ends e ls (head_of l.at (f ∷ fs))

  head_err : (e : ℕ) (l : Piece) (ls : List Piece) → SomeField (counted l) → IsErr (head_of l.at (counted l)) → IsErr (from_head marks ends e (l ∷ ls))
  head_err e l ls some h = by (counted l) some h
    where
      size : (x : Result Size Fault) → IsErr x → IsErr (from_size marks ends e ls x)
      size (Ok s) k = cc
      size (Err f) k = refl

      by : (fs : List Piece) → SomeField fs → IsErr (head_of l.at fs) → IsErr (from_fields e l ls fs)
      by [] some h = cc
      by (f ∷ fs) some h = size (head_of l.at (f ∷ fs)) h

  -- a line that does not count is passed over
  head_skip : (e : ℕ) (l : Piece) (ls : List Piece) → counted l ≡ [] → from_head marks ends e (l ∷ ls) ≡ from_head marks ends e ls
  head_skip e l ls none = grind arith

  -- a line that is a head
  head_on : (e : ℕ) (l : Piece) (ls : List Piece) (size : Size) → head_of l.at (counted l) ≡ Ok size → from_head marks ends e (l ∷ ls) ≡ from_size marks ends e ls (Ok size)
  head_on e l ls size h = by (counted l) h
    where
      by : (fs : List Piece) → head_of l.at fs ≡ Ok size → from_fields e l ls fs ≡ from_size marks ends e ls (Ok size)
      by [] h = cc
      by (f ∷ fs) h = ap (from_size marks ends e ls) h

book_ok : (n : ℕ) (x : Result (List Rule) Fault) → IsOk x → IsOk (book_of n x)
book_ok n (Ok rs) h = refl
book_ok n (Err f) h = cc

book_err : (n : ℕ) (x : Result (List Rule) Fault) → IsErr x → IsErr (book_of n x)
book_err n (Ok rs) h = cc
book_err n (Err f) h = refl

rules_err : (n : ℕ) (x : Result (List Rule) Fault) (f : Fault) → book_of n x ≡ Err f → x ≡ Err f
rules_err n x f h = grind arith

module _ (marks ends : ℕ) where
  -- a head of no rules is a book
  head_passes : (p : ℕ) (t : List ℕ) (n : ℕ) → AllByRecursion Inline t → get_or t 0 0 ≢ 99 → head_of p (fields p t) ≡ Ok (record { n = n; m = 0 }) → SomeBook marks ends p (t ++ [])
  head_passes p [] n i c h = cc
  head_passes p (b ∷ bs) n i c h = λ e.
      let t : List ℕ = b ∷ bs in
      let head : head_of p (counted (piece p t)) ≡ Ok (record { n = n; m = 0 }) = rw (plain_counted p t c) h in
      let one : from_head MOST_TEXT_MARKS MOST_TEXT_RULES e (lines p (t ++ [])) ≡ from_head MOST_TEXT_MARKS MOST_TEXT_RULES e (piece p t ∷ []) =
      ap (λ t. from_head MOST_TEXT_MARKS MOST_TEXT_RULES e (lines p t)) (append-nil t) ∙ ap (from_head MOST_TEXT_MARKS MOST_TEXT_RULES e) (lines_last p t i (λ k. cc)) in
      rw (one, head_on MOST_TEXT_MARKS MOST_TEXT_RULES e (piece p t) [] _ head) refl

  -- a fault of a head names its line, or one of its numbers
  head_cut : (p : ℕ) (l tail : List ℕ) (f : Fault) (x : Piece) (fs : List Piece) → AllByRecursion Inline l → EndsLine tail → counted (piece p l) ≡ x ∷ fs → head_of p (x ∷ fs) ≡ Err f → Cut p (l ++ tail) f (NoBook marks ends p) (SomeBook marks ends p)
  head_cut p l tail f x fs i k q h =
      let c = counted_plain p l x fs q in
      let has : fields p l ≡ x ∷ fs = sym (plain_counted p l c) ∙ q in
      let some : l ≢ [] = some_byte p l (x, fs, has) in
      elim (head_fault p (x ∷ fs) f h) [
        | inl is ↦
            record {
              before = [];
              bytes = l;
              after = tail;
              is_text = refl;
              byte_is = rw is (omega arith);
              named = line;
              no_excess = λ e. cc;
              allowed = rw is refl;
              is_named = (inl refl, i);
              ends_there = k;
              refused = λ rest r e.
                  let first = first_line p l rest i r some in
                  rw first.1 (head_err marks ends e (piece p l) first.0 (x, fs, q) (rw q (size_err (head_of p (x ∷ fs)) f h)));
              rest = codes "p cnf 1 0";
              replaces = tt;
              passed = λ e. refl;
            }
        | inr y ↦
            let (a, b, c₃, d, n, is, begun, fault) = y in
            in_cut {N = NoSize p [] p} {S = SomeSize p [] p} p l tail [] f i c k
            (λ t more i g r s no e.
            let first = first_line p t more i r (some_byte p t s) in
            rw first.1 (head_err marks ends e (piece p t) first.0 (rw (plain_counted p t g) s) (rw (plain_counted p t g) no)))
            (λ t i g s. head_passes p t s.0 i g s.1)
            (size_fault p l f a b c₃ d n (has ∙ is) (rw (has ∙ is) at (fields_of p l i)) begun fault)
            (names_field (c₃.at) (d.at) f (kinds d.bytes fault))
      ]
    where
      size_err : (y : Result Size Fault) (f : Fault) → y ≡ Err f → IsErr y
      size_err y f e = rw e refl

      names_field : (u v : ℕ) (f : Fault) → (f ≡ fault_at SizeOutOfRange u 0) ⊎ (f ≡ fault_at SizeOutOfRange v 0) → may_name f.refusal field ≡ true
      names_field u v f (inl e) = rw e refl
      names_field u v f (inr e) = rw e refl

      kinds : {u v n : ℕ} (w : List ℕ) → ((f ≡ fault_at SizeOutOfRange u 0) × ((n ≡ 0) ⊎ (MOST_PARTS < n)))
          ⊎ ((m : ℕ) × (f ≡ fault_at SizeOutOfRange v 0) × (1 ≤ n) × (n ≤ MOST_PARTS) × (number w ≡ Some m) × (MOST_TEXT_RULES < m)) → (f ≡ fault_at SizeOutOfRange u 0) ⊎ (f ≡ fault_at SizeOutOfRange v 0)
      kinds w (inl k) = inl k.0
      kinds w (inr k) = inr k.1

  alone : (e p : ℕ) (l : List ℕ) → AllByRecursion Inline l → counted (piece p l) ≡ [] → from_head marks ends e (lines p (l ++ [])) ≡ Err (fault_at NoHead e 0)
  alone e p [] i none = refl
  alone e p (b ∷ bs) i none =
      ap (λ t. from_head marks ends e (lines p t)) (append-nil (b ∷ bs)) ∙ (ap (from_head marks ends e) (lines_last p (b ∷ bs) i (λ k. cc)) ∙ head_skip marks ends e (piece p (b ∷ bs)) [] none)

  -- the text ends, and no line counted
  none_cut : (p : ℕ) (l : List ℕ) (e : ℕ) (f : Fault) → AllByRecursion Inline l → counted (piece p l) ≡ [] → e ≡ p + length l → f ≡ fault_at NoHead e 0 → Cut p l f (NoBook marks ends p) (SomeBook marks ends p)
  none_cut p l e f i none at is =
      record {
        before = l;
        bytes = [];
        after = [];
        is_text = sym (append-nil l);
        byte_is = ap (λ y. y.byte) is ∙ at;
        named = text_end;
        no_excess = λ k. cc;
        allowed = rw is refl;
        is_named = refl;
        ends_there = refl;
        refused = λ rest k d. rw (k, alone d p l i none) refl;
        rest = codes "\np cnf 1 0";
        replaces = inr refl;
        passed = λ d. rw (lines_feed p l (codes "p cnf 1 0") i, head_skip MOST_TEXT_MARKS MOST_TEXT_RULES d (piece p l) (lines (p + length l + 1) (codes "p cnf 1 0")) none) refl;
      }

  -- or after the head of some rules
  end_cut : (p : ℕ) (l : List ℕ) (e : ℕ) (f : Fault) (size : Size) → AllByRecursion Inline l → l ≢ [] → head_of p (counted (piece p l)) ≡ Ok size → e ≡ p + length l → rules_of (room_of marks ends size.n) e size.m 0 0 [] ≡ Err f → Cut p l f (NoBook marks ends p) (SomeBook marks ends p)
  end_cut p l e f size i some head at q =
      let heads = head_to p size (counted (piece p l)) head in
      let from = p + length l + 1 in
      let high : 0 < size.m = grind (arith, nat_tests) in
      let is : f ≡ fault_at RuleCount e 1 = grind (arith, nat_tests) in
      record {
        before = l;
        bytes = [];
        after = [];
        is_text = sym (append-nil l);
        byte_is = ap (λ y. y.byte) is ∙ at;
        named = text_end;
        no_excess = λ k. cc;
        allowed = rw is refl;
        is_named = refl;
        ends_there = refl;
        refused = λ rest k d.
            rw (k, append-nil l, lines_last p l i some, head_on marks ends d (piece p l) [] size head)
            (book_err size.n _ (is_err (rules_of (room_of marks ends size.n) d size.m 0 0 []) (fault_at RuleCount d 1) (grind (arith, nat_tests))));
        rest = 10 ∷ (codes "0" ++ zeros (size.m - 1));
        replaces = inr refl;
        passed = λ d.
            rw (lines_feed p l (codes "0" ++ zeros (size.m - 1)) i, head_on MOST_TEXT_MARKS MOST_TEXT_RULES d (piece p l) (lines from (codes "0" ++ zeros (size.m - 1))) size head)
            (book_ok size.n _ (zeros_pass size.n marks ends size.m heads.few heads.rules_few (size.m - 1) 0 0 from (omega arith) d));
      }

  text_cut : (ls : List (List ℕ)) (p : ℕ) (text : List ℕ) (e : ℕ) (f : Fault) → Lines ls text → e ≡ p + length text → from_head marks ends e (lines p text) ≡ Err f → Cut p text f (NoBook marks ends p) (SomeBook marks ends p)
  text_cut [] p text e f i at q = rw i (none_cut p [] e f tt refl (omega (arith, ap length i)) (grind arith))
  text_cut (l ∷ ls) p text e f i at q = elim i.1 [
    | inl t ↦
        let g = t.0 in
        let from = p + length l + 1 in
        let end : e ≡ from + length g = omega (arith, ap length t.1, length-append l (10 ∷ g)) in
        rw t.1 (fed g t.2 end (counted (piece p l)) refl (rw (t.1, lines_feed p l g i.0) at q) (λ r. text_cut ls from g e f t.2 end r))
    | inr t ↦
        let end : e ≡ p + length l = omega (arith, ap length t.0) in
        rw t.0 (last end t.2 (counted (piece p l)) refl (rw (t.0, lines_last p l i.0 t.2) at q))
  ]
    where
      -- after a line that is ended
      headed : (g : List ℕ) → Lines ls g → e ≡ p + length l + 1 + length g → (x : Piece) (fs : List Piece) → counted (piece p l) ≡ x ∷ fs → (y : Result Size Fault) → head_of p (x ∷ fs) ≡ y → from_size marks ends e (lines (p + length l + 1) g) y ≡ Err f
          → Cut p (l ++ 10 ∷ g) f (NoBook marks ends p) (SomeBook marks ends p)
      headed g h end x fs c (Err y) is r = head_cut p l (10 ∷ g) f x fs i.0 refl c (grind arith)
      headed g h end x fs c (Ok size) is r =
          let from = p + length l + 1 in
          let heads = head_to p size (x ∷ fs) is in
          let head : head_of p (counted (piece p l)) ≡ Ok size = rw c is in
          let rules = rules_err size.n _ f r in
          cut_after p l g f
          (λ t k d. rw (lines_feed p l t i.0, head_on marks ends d (piece p l) (lines from t) size head) (book_err size.n _ (k d)))
          (λ t k d. rw (lines_feed p l t i.0, head_on MOST_TEXT_MARKS MOST_TEXT_RULES d (piece p l) (lines from t) size head) (book_ok size.n _ (k d)))
          (rest_fault size.n marks ends size.m heads.few heads.rules_few ls 0 0 from g e f h end (omega arith) (omega arith) rules)

      fed : (g : List ℕ) → Lines ls g → e ≡ p + length l + 1 + length g → (fs : List Piece) → counted (piece p l) ≡ fs → from_fields marks ends e (piece p l) (lines (p + length l + 1) g) fs ≡ Err f
          → (from_head marks ends e (lines (p + length l + 1) g) ≡ Err f → Cut (p + length l + 1) g f (NoBook marks ends (p + length l + 1)) (SomeBook marks ends (p + length l + 1))) → Cut p (l ++ 10 ∷ g) f (NoBook marks ends p) (SomeBook marks ends p)
      fed g h end [] c r rec =
          let from = p + length l + 1 in
          cut_after p l g f
          (λ t k d. rw (lines_feed p l t i.0, head_skip marks ends d (piece p l) (lines from t) c) (k d))
          (λ t k d. rw (lines_feed p l t i.0, head_skip MOST_TEXT_MARKS MOST_TEXT_RULES d (piece p l) (lines from t) c) (k d))
          (rec r)
      fed g h end (x ∷ fs) c r rec = headed g h end x fs c (head_of p (x ∷ fs)) refl r

      -- after the last line, which is not
      closed : e ≡ p + length l → l ≢ [] → (x : Piece) (fs : List Piece) → counted (piece p l) ≡ x ∷ fs → (y : Result Size Fault) → head_of p (x ∷ fs) ≡ y → from_size marks ends e [] y ≡ Err f → Cut p l f (NoBook marks ends p) (SomeBook marks ends p)
      closed end some x fs c (Err y) is r = rw append-nil at (head_cut p l [] f x fs i.0 tt c (grind arith))
      closed end some x fs c (Ok size) is r = end_cut p l e f size i.0 some (rw c is) end (rules_err size.n _ f r)

      last : e ≡ p + length l → l ≢ [] → (fs : List Piece) → counted (piece p l) ≡ fs → from_fields marks ends e (piece p l) [] fs ≡ Err f → Cut p l f (NoBook marks ends p) (SomeBook marks ends p)
      last end some [] c r = none_cut p l e f i.0 c end (grind arith)
      last end some (x ∷ fs) c r = closed end some x fs c (head_of p (x ∷ fs)) refl r

order : (a b : ℕ) → (a ≤ b) ⊎ (b < a)
order a b = elim (cases_Bool (leb a b)) [ inl e ↦ inl (grind (arith, nat_tests)) | inr e ↦ inr (grind (arith, nat_tests)) ]

-- A fault is the first of its text.
module _ (marks ends : ℕ) where
  long_err : (t : List ℕ) → MOST_TEXT_BYTES < length t → read_of marks ends t ≡ Err (fault_at TextTooLong MOST_TEXT_BYTES 0)
  unfolding read_of
  long_err t h = grind (arith, nat_tests)

  short_is : (t : List ℕ) → length t ≤ MOST_TEXT_BYTES → read_of marks ends t ≡ lines_read marks ends t
  unfolding read_of
  short_is t h = grind (arith, nat_tests)

  none_read : (t : List ℕ) → NoBook marks ends 0 t → IsErr (read_of marks ends t)
  none_read t h = elim (order (length t) MOST_TEXT_BYTES) [
    | inl short ↦ rw (short_is t short) (h (length t))
    | inr long ↦ rw (long_err t long) refl
  ]

  first_short : (text : List ℕ) (f : Fault) → Cut 0 text f (NoBook marks ends 0) (SomeBook marks ends 0) → FaultIsFirst marks ends text f
  first_short text f x =
      record {
        before = x.before;
        bytes = x.bytes;
        after = x.after;
        is_text = x.is_text;
        byte = omega (arith, x.byte_is);
        named = x.named;
        allowed = x.allowed;
        is_named = x.is_named;
        ends_there = x.ends_there;
        refused = λ rest k. none_read (x.before ++ (x.bytes ++ rest)) (x.refused rest k);
        passed = λ _. (x.rest, x.replaces, x.passed (length (x.before ++ x.rest)));
      }

  first_long : (text : List ℕ) (f : Fault) → MOST_TEXT_BYTES < length text → f ≡ fault_at TextTooLong MOST_TEXT_BYTES 0 → FaultIsFirst marks ends text f
  first_long text f long is =
      let before = take MOST_TEXT_BYTES text in
      let rest = drop MOST_TEXT_BYTES text in
      let more : 1 ≤ length rest = omega (arith, length-drop MOST_TEXT_BYTES text) in
      let front : length before ≡ MOST_TEXT_BYTES = length-take-le MOST_TEXT_BYTES text (omega arith) in
      let one : length (take 1 rest) ≡ 1 = length-take-le 1 rest more in
      record {
        before = before;
        bytes = take 1 rest;
        after = drop 1 rest;
        is_text = sym (ap (λ t. before ++ t) (take-append-drop 1 rest) ∙ take-append-drop MOST_TEXT_BYTES text);
        byte = ap (λ y. y.byte) is ∙ sym front;
        named = excess;
        allowed = rw is refl;
        is_named = (front, one);
        ends_there = tt;
        refused = λ after _. rw (long_err (before ++ (take 1 rest ++ after)) (omega (arith, length-append before (take 1 rest ++ after), length-append (take 1 rest) after))) refl;
        passed = λ n. absurd (n refl);
      }

pub refusing_is_first : RefusingIsFirst
refusing_is_first marks ends text f e = elim (order (length text) MOST_TEXT_BYTES) [
  | inl short ↦ first_short marks ends text f (text_cut marks ends (bytes_of (lines 0 text)) 0 text (length text) f (lines_of 0 text) (omega arith) (sym (short_is marks ends text short) ∙ e))
  | inr long ↦ first_long marks ends text f long (fault_is (read_of marks ends text) (long_err marks ends text long) e)
]
  where
    fault_is : (x : Result RuleBook Fault) → x ≡ Err (fault_at TextTooLong MOST_TEXT_BYTES 0) → x ≡ Err f → f ≡ fault_at TextTooLong MOST_TEXT_BYTES 0
    fault_is x p q = cc
