-- Which fields are numbers, and what each is worth: just the decimal writing of numbers below 100,000.
use Rattle.std.proofs.Common.{◌≡◌, ℕ, ◌+◌, ◌-◌, ◌*◌, ◌^◌, ◌<◌, ◌≤◌, List, [], ◌∷◌, length, get_or, pos, Some, codes, decimal, refl, arith, rules}
use Rattle.std.specs.Option.{option_map}
use Rattle.std.specs.Int.{IsInRange as Within}
use Rattle.std.specs.List.{AllByRecursion}
use Rattle.std.proofs.lemmas.Fmt.{digits_decimal, digits_value-decimal, decimal-digits_value, decimal_nonempty, first_decimal, decimal_digit, length-decimal-le}
use Rattle.std.proofs.lemmas.List.Elements.{All-from_recursion}
use Rattle.std.proofs.lemmas.Str.Parse.{IsNumeralModel, numerals_by_fold, digits_value_short}
use Rattle.std.proofs.lemmas.Bool.Decides.{nat_tests}
use Rattle.text.specs.Numbers.{digits_from, number, signed}

abbrev read_on : ℕ → List ℕ → ℕ
read_on n [] = n
read_on n (c ∷ cs) = read_on (n * 10 + (c - 48)) cs

own : IsNumeralModel (AllByRecursion (Within 48 57)) (read_on 0)
own = numerals_by_fold _ (search rules) read_on (search rules)

digits_are : (v : ℕ) (ds : List ℕ) → AllByRecursion (Within 48 57) ds → digits_from v ds ≡ Some (read_on v ds)
digits_are v [] h = refl
digits_are v (c ∷ cs) h = grind (arith, nat_tests, digits_are (v * 10 + (c - 48)) cs)

digits_of : (v n : ℕ) (ds : List ℕ) → digits_from v ds ≡ Some n → AllByRecursion (Within 48 57) ds × (read_on v ds ≡ n)
digits_of v n [] e = (tt, cc)
digits_of v n (c ∷ cs) e = grind (arith, nat_tests, digits_of (v * 10 + (c - 48)) n cs)

-- digits with no 0 before them, five at most
abbrev Plain : List ℕ → Type 0
Plain ds = AllByRecursion (Within 48 57) ds × (0 < length ds) × (length ds ≤ 5) × (get_or ds 0 0 ≡ 48 → length ds ≡ 1)

number_are : (ds : List ℕ) → Plain ds → number ds ≡ Some (read_on 0 ds)
number_are [] h = grind arith
number_are (c ∷ []) h = grind (arith, nat_tests)
number_are (c ∷ d ∷ cs) h = grind (arith, nat_tests, digits_are 0 (c ∷ d ∷ cs))

number_of : (ds : List ℕ) (v : ℕ) → number ds ≡ Some v → Plain ds × (read_on 0 ds ≡ v)
number_of [] v e = cc
number_of (c ∷ []) v e = grind (arith, nat_tests)
number_of (c ∷ d ∷ cs) v e = grind (arith, nat_tests, digits_of 0 v (c ∷ d ∷ cs))

pub decimal_zero : decimal 0 ≡ codes "0"
decimal_zero = decimal_digit 0 (omega arith)

first : (v : ℕ) → v < 100000 → get_or (decimal v) 0 0 ≡ 48 → length (decimal v) ≡ 1
first v h e = grind (arith, decimal_zero, first_decimal v)

-- each number below 100,000 is read from its decimal writing
pub number_decimal : (v : ℕ) → v < 100000 → number (decimal v) ≡ Some v
number_decimal v h =
    let fits : v < 2 ^ 64 = omega arith in
    grind (arith, number_are (decimal v), digits_decimal own v fits, decimal_nonempty v fits, length-decimal-le 5 v (omega arith) h fits, first v h, digits_value-decimal own v fits)

-- and from nothing else
pub decimal_number : (w : List ℕ) (v : ℕ) → number w ≡ Some v → (w ≡ decimal v) × (v < 100000)
decimal_number w v e =
    let p = number_of w v e in
    grind (arith, p, digits_value_short own w 5 p.0.0 p.0.2, decimal-digits_value own w p.0.0 p.0.1 p.0.3)

pub decimal_digits : (v : ℕ) → v < 100000 → AllByRecursion (Within 48 57) (decimal v)
decimal_digits v h = digits_decimal own v (omega arith)

pub first_digit : (v : ℕ) → v < 100000 → Within 48 57 (get_or (decimal v) 0 0)
first_digit v h = All-from_recursion (Within 48 57) (decimal v) (decimal_digits v h) 0 0 (decimal_nonempty v (omega arith))

pub signed_plain : (w : List ℕ) → (get_or w 0 0 ≡ 45 → ⊥) → signed w ≡ option_map pos (number w)
signed_plain [] h = refl
signed_plain (b ∷ bs) h = grind (arith, nat_tests)
