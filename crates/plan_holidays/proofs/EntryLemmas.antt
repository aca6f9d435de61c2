-- The texts of one date and of two.
use Rattle.std.proofs.Common.{◌≡◌, ◌-◌, ◌≤◌, ◌<◌, inl, inr, ℕ, List, [], ◌∷◌, ◌++◌, Option, Some, None, length, length-append, take, drop, get_or, sym, ap, ◌∙◌, subst, append_assoc, arith, pos, ◌+ℤ◌, ℤ}
use Rattle.std.proofs.lemmas.List.{take_at, drop_at, drop_more, take-append-drop, get_or-append_right}
use Rattle.std.specs.Option.{IfNone}
use Rattle.jiff_core.specs.Date.{epoch_day}
use Rattle.jiff_core.specs.declared.civil.date.Date.{Date}
use Rattle.jiff_core.proofs.SignedLemmas.{signed_arith}
use Rattle.jiff_fmt.specs.Text.{year_text, pad2}
use Rattle.plan_calendar.specs.CalendarText.{IsStartText, HasNoStart}
use Rattle.plan_calendar.proofs.TextLemmas.{natural_year}
use Rattle.plan_calendar.proofs.CalendarOnceLemmas.{start_once}
use Rattle.plan_holidays.specs.HolidayText.{AreEnds, IsRange, IsSpan}

-- the text of a date has ten bytes
pub start_length : (text : List ℕ) (date : Date) → IsStartText text date → length text ≡ 10
start_length text date is =
    let natural = natural_year date.year is.year in
    ap length (is.spelled ∙ ap (λ (y : ℤ). year_text y ++ 45 ∷ [] ++ pad2 date.month ++ 45 ∷ [] ++ pad2 date.day) natural.1)

-- the parts of a text of two dates
pub record AreParts (text first_text last_text : List ℕ) : Type 0 where
  pub long : length text ≡ 22
  pub front : take 10 text ≡ first_text
  pub point : get_or text 10 0 ≡ 46
  pub second_point : get_or text 11 0 ≡ 46
  pub back : drop 12 text ≡ last_text

parts_of : (a b : List ℕ) → length a ≡ 10 → length b ≡ 10 → AreParts (a ++ 46 ∷ 46 ∷ b) a b
parts_of a b first last = record {
  long = omega (arith, length-append a (46 ∷ 46 ∷ b), first, last);
  front = take_at a (46 ∷ 46 ∷ b) 10 first;
  point = get_or-append_right a (46 ∷ 46 ∷ b) 10 10 0 first (omega arith);
  second_point = get_or-append_right a (46 ∷ 46 ∷ b) 10 11 0 first (omega arith);
  back =
      ap (drop 12) (sym (append_assoc a (46 ∷ 46 ∷ []) b))
      ∙ drop_at (a ++ 46 ∷ 46 ∷ []) b 12 (omega (arith, length-append a (46 ∷ 46 ∷ []), first));
}

pub parts_are : (text : List ℕ) (first last : Date) (are : AreEnds text first last) → AreParts text are.first_text are.last_text
parts_are text first last are =
    subst (λ t. AreParts t are.first_text are.last_text) (sym are.spelled)
    (parts_of are.first_text are.last_text (start_length are.first_text first are.begins) (start_length are.last_text last are.ends))

-- a text of 22 bytes with two points in its middle is cut there
pub cut_in_two : (text : List ℕ) → length text ≡ 22 → get_or text 10 0 ≡ 46 → get_or text 11 0 ≡ 46 → text ≡ take 10 text ++ 46 ∷ 46 ∷ drop 12 text
cut_in_two text long point second =
    sym (take-append-drop 10 text)
    ∙ ap (λ rest. take 10 text ++ rest) (drop_more text 10 0 (omega (arith, long)) ∙ ap (λ rest. get_or text 10 0 ∷ rest) (drop_more text 11 0 (omega (arith, long))))
    ∙ ap (λ byte. take 10 text ++ byte ∷ get_or text 11 0 ∷ drop 12 text) point
    ∙ ap (λ byte. take 10 text ++ 46 ∷ byte ∷ drop 12 text) second

-- two dates of one text are the same days
pub ends_once : (text : List ℕ) (a b c d : Date) → AreEnds text a b → AreEnds text c d → (epoch_day a ≡ epoch_day c) × (epoch_day b ≡ epoch_day d)
ends_once text a b c d first second =
    let one = parts_are text a b first in
    let two = parts_are text c d second in (
      start_once first.first_text a c first.begins (subst (λ t. IsStartText t c) (sym two.front ∙ one.front) second.begins),
      start_once first.last_text b d first.ends (subst (λ t. IsStartText t d) (sym two.back ∙ one.back) second.ends),
    )

-- a text isn't both a date and two dates
pub not_both : (text : List ℕ) (day first last : Date) → IsStartText text day → AreEnds text first last → ⊥
not_both text day first last is are =
    let long = (parts_are text first last are).long in
    let short = start_length text day is in
    omega (arith, long, short)

-- the days from the first to the last date, by their numbers from -9999-01-01 on
pub gap_is : (first last : Date) (a b : ℕ) → epoch_day first +ℤ pos 4371587 ≡ pos a → epoch_day last +ℤ pos 4371587 ≡ pos b
    → a ≤ b → epoch_day last ≡ epoch_day first +ℤ pos (b - a)
gap_is first last a b one two order = omega (arith, signed_arith, one, two, order)

-- if the last date of a text is before the first, it is no range
pub none_between : (text : List ℕ) (first last other_first other_last : Date) (a b : ℕ) → epoch_day first +ℤ pos 4371587 ≡ pos a
    → epoch_day last +ℤ pos 4371587 ≡ pos b → b < a → AreEnds text first last → IsRange text other_first other_last → ⊥
none_between text first last other_first other_last a b one two less are (others, (more, order)) =
    let same = ends_once text first last other_first other_last are others in
    omega (arith, signed_arith, one, two, less, same.0, same.1, order)

-- a text that isn't two dates is no range
pub no_range : (text : List ℕ) {S : Type 0} (r : Option S) → ((first last : Date) → AreEnds text first last → ⊥)
    → IfNone r ((first last : Date) → IsRange text first last → ⊥)
no_range text None none = λ first last range. none first last range.0
no_range text (Some x) none = tt

neither : (text : List ℕ) → HasNoStart text → ((first last : Date) → IsRange text first last → ⊥) → (first last : Date) → IsSpan text first last → ⊥
neither text day range first last (inl one) = day first one.0
neither text day range first last (inr two) = range first last two

-- a text that is neither a date nor a range is no span
pub no_span : (text : List ℕ) {S : Type 0} (r : Option S) → HasNoStart text → IfNone r ((first last : Date) → IsRange text first last → ⊥)
    → IfNone r ((first last : Date) → IsSpan text first last → ⊥)
no_span text None day range = neither text day range
no_span text (Some x) day range = tt
