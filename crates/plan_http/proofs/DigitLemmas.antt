-- Numbers as texts of digits.
use Rattle.std.proofs.Common.{◌≡◌, ℕ, ◌+◌, ◌-◌, ◌*◌, ◌≤◌, Bool, true, false, ◌&&◌, List, [], ◌∷◌, ◌++◌, length, take, drop, refl, ap, sym, ◌∙◌, arith, nat_eq, subst, eq-eqb}
use Rattle.std.proofs.lemmas.Bool.Decides.{nat_tests, same_from_decides, Decides-and, Decides-like, Decides-eqb}
use Rattle.std.proofs.lemmas.Bool.{eqb-true}
use Rattle.std.proofs.lemmas.Slice.Eq.{bytes_eq-Decides}
use Rattle.std.proofs.lemmas.List.{take-append-drop, length-drop}
use Rattle.std.specs.Bool.{Decides}
use Rattle.std.specs.Str.{bytes_eq}
use Rattle.plan_http.specs.Lengths.{is_zero}
use Rattle.std.proofs.lemmas.List.Folds.{list_all-append}
use Rattle.std.specs.List.{list_all}
use Rattle.std.specs.Char.{is_ascii_digit, digit_value}
use Rattle.std.specs.Str.Parse.{digits_value, digits_value_after}

-- a digit's number
pub record IsDigit (c : ℕ) : Type 0 where
  pub low : 48 ≤ c
  pub high : c ≤ 57
  pub value : digit_value c ≡ c - 48

pub digit_at : (c : ℕ) → is_ascii_digit c ≡ true → IsDigit c
digit_at c is = record {
  low = grind (arith, nat_tests);
  high = grind (arith, nat_tests);
  value = grind (arith, nat_tests);
}

pub both : (a b : Bool) → (a && b) ≡ true → (a ≡ true) × (b ≡ true)
both true b is = (refl, is)
both false b is = absurd (cc)

pub both_true : (a b : Bool) → a ≡ true → b ≡ true → (a && b) ≡ true
both_true a b ha hb = rw (ha, hb) refl

-- the first digit, and that the others are digits
pub first_digit : (c : ℕ) (cs : List ℕ) → list_all is_ascii_digit (c ∷ cs) ≡ true → IsDigit c × (list_all is_ascii_digit cs ≡ true)
first_digit c cs all =
    let parts = both (is_ascii_digit c) (list_all is_ascii_digit cs) all in
    (digit_at c parts.0, parts.1)

-- digits behind a number, in two parts
pub after_append : (m : ℕ) (a b : List ℕ) → digits_value_after 10 m (a ++ b) ≡ digits_value_after 10 (digits_value_after 10 m a) b
after_append m [] b = refl
after_append m (c ∷ cs) b = after_append (m * 10 + digit_value c) cs b

-- equally many digits after two numbers give the same value only if both numbers and all digits are
-- equal
pub same_after : (m n : ℕ) (a b : List ℕ) → list_all is_ascii_digit a ≡ true → list_all is_ascii_digit b ≡ true → length a ≡ length b
    → digits_value_after 10 m a ≡ digits_value_after 10 n b → (m ≡ n) × (a ≡ b)
same_after m n [] [] da db len same = (same, refl)
same_after m n [] (d ∷ b) da db len same = absurd (omega (arith, len))
same_after m n (c ∷ a) [] da db len same = absurd (omega (arith, len))
same_after m n (c ∷ a) (d ∷ b) da db len same =
    let first = first_digit c a da in
    let second = first_digit d b db in
    let more : length a ≡ length b = omega (arith, len) in
    let rest = same_after (m * 10 + digit_value c) (n * 10 + digit_value d) a b first.1 second.1 more same in
    let numbers : m * 10 + digit_value c ≡ n * 10 + digit_value d = rest.0 in
    let c_is : digit_value c ≡ c - 48 = first.0.value in
    let d_is : digit_value d ≡ d - 48 = second.0.value in
    let c_low : 48 ≤ c = first.0.low in
    let c_high : c ≤ 57 = first.0.high in
    let d_low : 48 ≤ d = second.0.low in
    let d_high : d ≤ 57 = second.0.high in
    let m_is : m ≡ n = omega arith in
    let digit : c ≡ d = omega arith in
    let tail : a ≡ b = rest.1 in
    (m_is, cc)

-- a number that is followed by digits doesn't get smaller
pub after_least : (m : ℕ) (a : List ℕ) → m ≤ digits_value_after 10 m a
after_least m [] = omega arith
after_least m (c ∷ cs) = let more = after_least (m * 10 + digit_value c) cs in omega arith

-- digits have the value 0 only if all of them are zeros
pub zeros_decide : (a : List ℕ) → list_all is_ascii_digit a ≡ true → Decides (list_all is_zero a) (digits_value_after 10 0 a ≡ 0)
zeros_decide [] da = (λ _. refl, λ _. refl)
zeros_decide (c ∷ cs) da =
    let first = first_digit c cs da in
    let value : digit_value c ≡ c - 48 = first.0.value in
    let low : 48 ≤ c = first.0.low in
    let others = zeros_decide cs first.1 in (
      (λ all.
          let parts = both (is_zero c) (list_all is_zero cs) all in
          let is : c ≡ 48 = eqb-true c 48 parts.0 in
          let none : 0 * 10 + digit_value c ≡ 0 = omega arith in
          rw none (others.0 parts.1)),
      (λ sum.
          let least : 0 * 10 + digit_value c ≤ digits_value_after 10 (0 * 10 + digit_value c) cs = after_least (0 * 10 + digit_value c) cs in
          let is : c ≡ 48 = omega (arith, sum) in
          let none : 0 * 10 + digit_value c ≡ 0 = omega arith in
          both_true (is_zero c) (list_all is_zero cs) (eq-eqb c 48 is) (others.1 (subst (λ m. digits_value_after 10 m cs ≡ 0) none sum))),
    )

-- a longer number equals a shorter one if its front is zeros and its end is the shorter one, and
-- only then
pub longer_is : (front rest short : List ℕ) → list_all is_ascii_digit front ≡ true → list_all is_ascii_digit rest ≡ true
    → list_all is_ascii_digit short ≡ true → length rest ≡ length short
    → nat_eq (digits_value 10 (front ++ rest)) (digits_value 10 short) ≡ (list_all is_zero front && bytes_eq rest short)
longer_is front rest short df dr ds len =
    let parts = Decides-and (list_all is_zero front) (bytes_eq rest short) (zeros_decide front df) (bytes_eq-Decides rest short) in
    let forth : ((digits_value 10 front ≡ 0) × (rest ≡ short)) → digits_value 10 (front ++ rest) ≡ digits_value 10 short =
    λ h. after_append 0 front rest ∙ ap (λ m. digits_value_after 10 m rest) h.0 ∙ ap (digits_value_after 10 0) h.1 in
    let back : digits_value 10 (front ++ rest) ≡ digits_value 10 short → ((digits_value 10 front ≡ 0) × (rest ≡ short)) =
    λ h. same_after (digits_value 10 front) 0 rest short dr ds len (sym (after_append 0 front rest) ∙ h) in
    same_from_decides (nat_eq (digits_value 10 (front ++ rest)) (digits_value 10 short)) (list_all is_zero front && bytes_eq rest short)
    (Decides-eqb (digits_value 10 (front ++ rest)) (digits_value 10 short))
    (Decides-like (list_all is_zero front && bytes_eq rest short) forth back parts)

-- the same for a text whose end is as long as the other one
pub shorter_is : (long short : List ℕ) (k : ℕ) → k + length short ≡ length long → list_all is_ascii_digit long ≡ true → list_all is_ascii_digit short ≡ true
    → nat_eq (digits_value 10 long) (digits_value 10 short) ≡ (list_all is_zero (take k long) && bytes_eq (drop k long) short)
shorter_is long short k sum dl ds =
    let whole : take k long ++ drop k long ≡ long = take-append-drop k long in
    let cut : list_all is_ascii_digit (take k long ++ drop k long) ≡ true = rw whole dl in
    let parts = both (list_all is_ascii_digit (take k long)) (list_all is_ascii_digit (drop k long)) (sym (list_all-append is_ascii_digit (take k long) (drop k long)) ∙ cut) in
    let len : length (drop k long) ≡ length short = omega (arith, length-drop k long) in
    subst (λ xs. nat_eq (digits_value 10 xs) (digits_value 10 short) ≡ (list_all is_zero (take k long) && bytes_eq (drop k long) short)) whole
    (longer_is (take k long) (drop k long) short parts.0 parts.1 ds len)
