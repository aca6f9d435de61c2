-- A text that spells a budget begins with a digit above 0, and is the decimal spelling of the
-- budget.
use Rattle.std.proofs.Common.{◌≡◌, ◌∙◌, ℕ, ◌^◌, ◌<◌, ◌≤◌, zero, suc, List, Result, Ok, Err, length, true, refl, sym, subst, arith}
use Rattle.std.specs.Prelude.{get_or}
use Rattle.std.specs.Fmt.{decimal}
use Rattle.std.specs.Result.{OkIff}
use Rattle.std.specs.Str.{all_ascii_digits}
use Rattle.std.specs.Str.Parse.{digits_value, ParsesUnsigned}
use Rattle.std.proofs.lemmas.Fmt.{decimal_is_IsNumeral, decimal-digits_value, parse-decimal, first_decimal, decimal_digit}
use Rattle.std.proofs.lemmas.Str.Parse.{IsNumeralModel, numerals_by_value, tells_all_ascii_digits, parse_plain, digit_at}
use Rattle.plan_exact.specs.Budgets.{IsBudgetText, BeginsAboveZero}

own : IsNumeralModel (λ ds. all_ascii_digits ds ≡ true) (digits_value 10)
own = numerals_by_value _ tells_all_ascii_digits

-- a text that is read as a number, and begins with a digit above 0, is that number in digits
pub read_back : {E : Type 0} (text : List ℕ) (r : Result ℕ E) (n : ℕ) → ParsesUnsigned 64 10 text r → BeginsAboveZero text → r ≡ Ok n → text ≡ decimal n
read_back {E} text r n parsed above e =
    let first = above.0 in
    let last = above.1 in
    let plain = subst (λ (q : Result ℕ E). OkIff q ((all_ascii_digits text ≡ true) × (0 < length text) × (digits_value 10 text < 2 ^ 64)) (digits_value 10 text)) e
    (parse_plain own 64 text r parsed (λ plus. omega (arith, plus, last, first))) in
    subst (λ m. text ≡ decimal m) (sym plain.1) (sym (decimal-digits_value own text plain.0.0 plain.0.1 (λ zero. absurd (omega (arith, zero, first))) plain.0.2))

-- a number above 0 in digits begins with a digit above 0
pub begins_above : (n : ℕ) → 0 < n → n < 2 ^ 64 → BeginsAboveZero (decimal n)
begins_above n positive small =
    let first = first_decimal n positive small in
    let digits = decimal_is_IsNumeral n small in
    let inside = digit_at (decimal n) 0 digits.0.1 digits.0.0 in
    (omega (arith, first), inside.1)

-- a number was read
abbrev pub IsRead : {E : Type 0} → Result ℕ E → Type 0
IsRead (Ok n) = Unit {0}
IsRead (Err e) = ⊥

-- a text that no number is read from spells no budget
pub unread : {E : Type 0} (text : List ℕ) (r : Result ℕ E) (e : E) → ParsesUnsigned 64 10 text r → r ≡ Err e → (budget : ℕ) → IsBudgetText text budget → ⊥
unread {E} text r e parsed fails budget spelled =
    let most = spelled.0.1 in
    let reads = parse-decimal 64 budget text r (omega (arith, most)) (omega (arith, most)) spelled.1 parsed in
    absurd (subst IsRead (sym reads ∙ fails) tt)

-- a number that was read is n
abbrev pub IsOf : {E : Type 0} → ℕ → Result ℕ E → Type 0
IsOf n (Ok m) = m ≡ n
IsOf n (Err e) = ⊥

-- a text that a greater number is read from spells no budget
pub too_great : {E : Type 0} (text : List ℕ) (r : Result ℕ E) (n : ℕ) → ParsesUnsigned 64 10 text r → r ≡ Ok n → 200000 < n → (budget : ℕ) → IsBudgetText text budget → ⊥
too_great text r n parsed reads great budget spelled =
    let most = spelled.0.1 in
    let same = parse-decimal 64 budget text r (omega (arith, most)) (omega (arith, most)) spelled.1 parsed in
    let equal : n ≡ budget = subst (IsOf budget) (sym same ∙ reads) refl in
    absurd (omega (arith, equal, most, great))

-- a text that begins with no digit above 0 spells no budget
pub not_above : (text : List ℕ) → (BeginsAboveZero text → ⊥) → (budget : ℕ) → IsBudgetText text budget → ⊥
not_above text low budget spelled =
    let least = spelled.0.0 in
    let most = spelled.0.1 in
    low (subst BeginsAboveZero (sym spelled.1) (begins_above budget (omega (arith, least)) (omega (arith, most))))

-- a budget that is read is above 0
pub positive : {E : Type 0} (text : List ℕ) (r : Result ℕ E) (n : ℕ) → ParsesUnsigned 64 10 text r → BeginsAboveZero text → r ≡ Ok n → n ≤ 200000 → IsBudgetText text n
positive text r n parsed above e most =
    let back = read_back text r n parsed above e in
    let first : 48 < get_or (decimal n) 0 0 = subst (λ (bytes : List ℕ). 48 < get_or bytes 0 0) back (omega (arith, above.0)) in
    ((some n first, most), back)
  where
    some : (n : ℕ) → 48 < get_or (decimal n) 0 0 → 1 ≤ n
    some zero first = absurd (omega (arith, subst (λ (bytes : List ℕ). 48 < get_or bytes 0 0) (decimal_digit 0 (omega arith)) first))
    some (suc n) first = omega arith
