-- The date and the marks that the texts of a calendar spell.
use Rattle.std.proofs.Common.{◌≡◌, ℕ, zero, suc, ◌+◌, ◌/◌, ◌%◌, ◌<◌, inl, inr, Bool, true, false, nat_eq, List, [], ◌∷◌, ◌++◌, length, get_or, map, Option, Some, None, refl, sym, ◌∙◌, subst, ap, arith, pos, negsuc, ℤ}
use Rattle.std.specs.List.{list_any}
use Rattle.std.specs.Option.{IfNone}
use Rattle.jiff_core.specs.Calendar.{IsBetween}
use Rattle.jiff_core.specs.declared.civil.date.Date.{Date}
use Rattle.jiff_core.proofs.SignedLemmas.{signed_arith}
use Rattle.jiff_fmt.specs.Text.{year_text, pad2}
use Rattle.plan_calendar.specs.CalendarText.{IsStartText, date_bytes, mark_digit, IsMarkDigit, IsMarksText}

-- a fact of an absent value, weakened
pub none_weaker : {A : Type 0} (r : Option A) (P Q : Type 0) → (P → Q) → IfNone r P → IfNone r Q
none_weaker None P Q follows p = follows p
none_weaker (Some x) P Q follows p = p

-- a year of a calendar is a natural number
pub natural_year : (y : ℤ) → IsBetween (pos 1900) (pos 2199) y → (n : ℕ) × (y ≡ pos n)
natural_year (pos n) range = (n, refl)
natural_year (negsuc n) range = absurd (omega (arith, signed_arith, range.0))

year_of : (a b : ℕ) → 48 + a / 100 / 10 ≡ 48 + b / 100 / 10 → 48 + a / 100 % 10 ≡ 48 + b / 100 % 10 → 48 + a % 100 / 10 ≡ 48 + b % 100 / 10 → 48 + a % 100 % 10 ≡ 48 + b % 100 % 10 → a ≡ b
year_of a b p q r s = omega (arith, p, q, r, s)

two_of : (a b : ℕ) → 48 + a / 10 ≡ 48 + b / 10 → 48 + a % 10 ≡ 48 + b % 10 → a ≡ b
two_of a b p q = omega (arith, p, q)

-- the parts of a text are those of the date that it spells
pub same_parts : (text : List ℕ) (year month day : ℕ) (date : Date) → text ≡ date_bytes year month day → IsStartText text date → (date.year ≡ pos year) × (date.month ≡ month) × (date.day ≡ day)
same_parts text year month day date parts start =
    let natural = natural_year date.year start.year in
    let n = natural.0 in
    let spelled : date_bytes n date.month date.day ≡ date_bytes year month day =
    ap (λ y. year_text y ++ 45 ∷ [] ++ pad2 date.month ++ 45 ∷ [] ++ pad2 date.day) (sym natural.1) ∙ sym start.spelled ∙ parts in
    let same = year_of n year (ap (λ bs. get_or bs 0 0) spelled) (ap (λ bs. get_or bs 1 0) spelled) (ap (λ bs. get_or bs 2 0) spelled) (ap (λ bs. get_or bs 3 0) spelled) in (
      natural.1 ∙ ap (λ k. pos k) same,
      two_of date.month month (ap (λ bs. get_or bs 5 0) spelled) (ap (λ bs. get_or bs 6 0) spelled),
      two_of date.day day (ap (λ bs. get_or bs 8 0) spelled) (ap (λ bs. get_or bs 9 0) spelled),
    )

digit_is : (mark : Bool) → IsMarkDigit (mark_digit mark)
digit_is true = inr refl
digit_is false = inl refl

pub digit_at : (marks : List Bool) (k : ℕ) → k < length (map mark_digit marks) → IsMarkDigit (get_or (map mark_digit marks) k 0)
digit_at [] k inside = absurd (omega (arith, inside))
digit_at (mark ∷ marks) zero inside = digit_is mark
digit_at (mark ∷ marks) (suc k) inside = digit_at marks k (omega (arith, inside))

-- a text contains a one exactly if it marks a weekday
pub any_one : (marks : List Bool) → list_any (λ byte. nat_eq byte 49) (map mark_digit marks) ≡ list_any (λ mark. mark) marks
any_one [] = refl
any_one (true ∷ marks) = refl
any_one (false ∷ marks) = any_one marks

spelled_by : (byte : ℕ) → IsMarkDigit byte → byte ≡ mark_digit (nat_eq byte 49)
spelled_by byte (inl zero_digit) = zero_digit ∙ ap (λ b. mark_digit (nat_eq b 49)) (sym zero_digit)
spelled_by byte (inr one_digit) = one_digit ∙ ap (λ b. mark_digit (nat_eq b 49)) (sym one_digit)

spelled_all : (bytes : List ℕ) → ((k : ℕ) → k < length bytes → IsMarkDigit (get_or bytes k 0)) → bytes ≡ map mark_digit (map (λ byte. nat_eq byte 49) bytes)
spelled_all [] digits = refl
spelled_all (byte ∷ bytes) digits =
    let first = spelled_by byte (digits 0 (omega arith)) in
    let rest = spelled_all bytes (λ k inside. digits (suc k) (omega (arith, inside))) in
    ap (λ b. b ∷ bytes) first ∙ ap (λ bs. mark_digit (nat_eq byte 49) ∷ bs) rest

map_any : (bytes : List ℕ) → list_any (λ mark. mark) (map (λ byte. nat_eq byte 49) bytes) ≡ list_any (λ byte. nat_eq byte 49) bytes
map_any [] = refl
map_any (byte ∷ bytes) = grind (arith, map_any bytes)

abbrev pub ones_of : List ℕ → List Bool
ones_of bytes = nat_eq (get_or bytes 0 0) 49 ∷ nat_eq (get_or bytes 1 0) 49 ∷ nat_eq (get_or bytes 2 0) 49 ∷ nat_eq (get_or bytes 3 0) 49
    ∷ nat_eq (get_or bytes 4 0) 49 ∷ nat_eq (get_or bytes 5 0) 49 ∷ nat_eq (get_or bytes 6 0) 49 ∷ []

seven : (bytes : List ℕ) → length bytes ≡ 7 → map (λ byte. nat_eq byte 49) bytes ≡ ones_of bytes
seven (a ∷ b ∷ c ∷ d ∷ e ∷ f ∷ g ∷ []) long = refl
seven [] long = absurd (omega (arith, long))
seven (a ∷ []) long = absurd (omega (arith, long))
seven (a ∷ b ∷ []) long = absurd (omega (arith, long))
seven (a ∷ b ∷ c ∷ []) long = absurd (omega (arith, long))
seven (a ∷ b ∷ c ∷ d ∷ []) long = absurd (omega (arith, long))
seven (a ∷ b ∷ c ∷ d ∷ e ∷ []) long = absurd (omega (arith, long))
seven (a ∷ b ∷ c ∷ d ∷ e ∷ f ∷ []) long = absurd (omega (arith, long))
seven (a ∷ b ∷ c ∷ d ∷ e ∷ f ∷ g ∷ h ∷ rest) long = absurd (omega (arith, long))

-- seven digits of marks, one of them a one, are the text of their marks
pub marks_of : (bytes : List ℕ) → length bytes ≡ 7 → ((k : ℕ) → k < length bytes → IsMarkDigit (get_or bytes k 0)) → list_any (λ byte. nat_eq byte 49) bytes ≡ true → IsMarksText bytes (ones_of bytes)
marks_of bytes long digits some = record {
  spelled = spelled_all bytes digits ∙ ap (λ marks. map mark_digit marks) (seven bytes long);
  week = record {
    seven = refl;
    some = ap (λ marks. list_any (λ mark. mark) marks) (sym (seven bytes long)) ∙ map_any bytes ∙ some;
  };
}

-- each byte of a text of marks is a digit of a mark
pub digits_of : (text : List ℕ) (marks : List Bool) → IsMarksText text marks → (k : ℕ) → k < length text → IsMarkDigit (get_or text k 0)
digits_of text marks spells k inside =
    subst (λ bytes. IsMarkDigit (get_or bytes k 0)) (sym spells.spelled) (digit_at marks k (subst (λ bytes. k < length bytes) spells.spelled inside))

-- and one of them is a one
pub one_of : (text : List ℕ) (marks : List Bool) → IsMarksText text marks → list_any (λ byte. nat_eq byte 49) text ≡ true
one_of text marks spells = ap (λ bytes. list_any (λ byte. nat_eq byte 49) bytes) spells.spelled ∙ any_one marks ∙ spells.week.some
