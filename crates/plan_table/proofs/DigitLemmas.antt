-- The decimal digits of a number: what their bytes are, and that they are read as the number.
use Rattle.std.proofs.Common.{◌≡◌, ℕ, ◌+◌, ◌-◌, ◌*◌, ◌≤◌, ◌<◌, ◌&&◌, Bool, true, false, List, [], ◌∷◌, Some, length, refl, sym, ap, ◌∙◌, arith, rules, cond, None}
use Rattle.std.specs.Prelude.{nat_le, not, fold}
use Rattle.std.specs.List.{list_all}
use Rattle.std.specs.Fmt.{decimal}
use Rattle.std.proofs.lemmas.Bool.{agree_below, agree_below_at, leb-true, le-leb, and_parts, and_from, not-false}
use Rattle.std.proofs.lemmas.Fmt.{digits_decimal, digits_value-decimal, length-decimal-le, decimal_nonempty}
use Rattle.std.proofs.lemmas.Str.Parse.{IsNumeralModel, numerals_by_fold}
use Rattle.plan_psplib.specs.Numbers as numbers
use Rattle.plan_psplib.specs.Numbers.{is_digit, is_number, number}

abbrev AllPass : (ℕ → Bool) → List ℕ → Type 0
AllPass p xs = list_all p xs ≡ true

-- what holds of each that passes holds of all
pub all_weaker : (p q : ℕ → Bool) → ((b : ℕ) → p b ≡ true → q b ≡ true) → (xs : List ℕ) → list_all p xs ≡ true → list_all q xs ≡ true
all_weaker p q f [] h = refl
all_weaker p q f (x ∷ xs) h =
    let both = and_parts (p x) (list_all p xs) h in
    and_from (q x) (list_all q xs) (f x both.0) (all_weaker p q f xs both.1)

-- a test that all digits pass
pub digit_passes : (q : ℕ → Bool) → agree_below (λ b. is_digit b && not (q b)) (λ b. false) 58 ≡ true → (b : ℕ) → is_digit b ≡ true → q b ≡ true
digit_passes q all b digit =
    let both = and_parts (nat_le 48 b) (nat_le b 57) digit in
    let high : b ≤ 57 = leb-true b 57 both.1 in
    let none : (is_digit b && not (q b)) ≡ false = agree_below_at (λ b. is_digit b && not (q b)) (λ b. false) 58 b all (omega (arith, high)) in
    not-false (q b) (ap (λ d. d && not (q b)) (sym digit) ∙ none)

own : IsNumeralModel (AllPass is_digit) numbers.decimal
own = numerals_by_fold (AllPass is_digit) (search rules) (λ n ds. fold (λ n byte. n * 10 + (byte - 48)) n ds) (search rules)

-- each byte is a digit
pub decimal_digits : (n : ℕ) → n < 1000000000 → list_all is_digit (decimal n) ≡ true
decimal_digits n small = digits_decimal own n (omega (arith, small))

-- each byte passes a test that all digits pass
pub decimal_passes : (q : ℕ → Bool) → agree_below (λ b. is_digit b && not (q b)) (λ b. false) 58 ≡ true → (n : ℕ) → n < 1000000000 → list_all q (decimal n) ≡ true
decimal_passes q all n small = all_weaker is_digit q (digit_passes q all) (decimal n) (decimal_digits n small)

-- there is a first digit
pub record HasFirst (text : List ℕ) : Type 0 where
  pub first : ℕ
  pub others : List ℕ
  pub is : text ≡ first ∷ others

first_of_some : (text : List ℕ) → 0 < length text → HasFirst text
first_of_some [] some = absurd (omega (arith, some))
first_of_some (b ∷ bs) some = record { first = b; others = bs; is = refl }

pub decimal_first : (n : ℕ) → n < 1000000000 → HasFirst (decimal n)
decimal_first n small = first_of_some (decimal n) (decimal_nonempty n (omega (arith, small)))

-- the digits are read as the number
pub number-decimal : (n : ℕ) → n < 1000000000 → number (decimal n) ≡ Some n
number-decimal n small =
    let some = decimal_nonempty n (omega (arith, small)) in
    let short = length-decimal-le 9 n (omega arith) small (omega (arith, small)) in
    let good : is_number (decimal n) ≡ true = and_from _ _ (and_from _ _ (le-leb 1 (length (decimal n)) (omega (arith, some))) (le-leb (length (decimal n)) 9 short)) (decimal_digits n small) in
    ap (λ b. cond b (Some (numbers.decimal (decimal n))) None) good ∙ ap (λ (m : ℕ). Some m) (digits_value-decimal own n (omega (arith, small)))
