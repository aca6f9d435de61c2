-- The days of a list, and those that lines name.
use Rattle.std.proofs.Common.{◌≡◌, ◌-◌, ◌<◌, ◌⊎◌, inl, inr, ℕ, suc, Bool, true, false, List, [], ◌∷◌, ◌++◌, length, get_or, refl, sym, ap, ◌∙◌, subst, arith, pos, ◌+ℤ◌, ℤ}
use Rattle.std.specs.Prelude.{◌||◌}
use Rattle.std.specs.Ordering.{int_eq}
use Rattle.std.proofs.lemmas.Bool.{both_ways}
use Rattle.std.proofs.lemmas.Bool.Decides.{Decides-int_eq}
use Rattle.std.proofs.lemmas.List.Folds.{Any-from_list_any, list_any_at, list_any-append}
use Rattle.jiff_core.specs.Date.{epoch_day}
use Rattle.jiff_core.specs.declared.civil.date.Date.{Date}
use Rattle.jiff_core.proofs.SignedLemmas.{signed_arith}
use Rattle.plan_calendar.specs.WorkingDay.{is_holiday}
use Rattle.plan_calendar.proofs.CalendarOnceLemmas.{start_once}
use Rattle.plan_holidays.specs.HolidayText.{entry, IsSpan, AreDays, NamesDays, NameDays, IsWithin, HasDay, HaveDay, AreExactly}
use Rattle.plan_holidays.proofs.EntryLemmas.{start_length, parts_are, ends_once, not_both}

or_split : (a b : Bool) → (a || b) ≡ true → (a ≡ true) ⊎ (b ≡ true)
or_split true b e = inl refl
or_split false b e = inr e

or_left : (a b : Bool) → a ≡ true → (a || b) ≡ true
or_left true b e = refl
or_left false b e = cc

or_right : (a b : Bool) → b ≡ true → (a || b) ≡ true
or_right true b e = refl
or_right false b e = e

-- ---- the days of a list

holiday_at : (days : List Date) (k : ℕ) (d : Date) (day : ℤ) → k < length days → epoch_day (get_or days k d) ≡ day → is_holiday days day ≡ true
unfolding is_holiday
holiday_at days k d day inside same = list_any_at (λ date. int_eq (epoch_day date) day) days k d inside ((Decides-int_eq (epoch_day (get_or days k d)) day).1 same)

record IsFound (days : List Date) (day : ℤ) : Type 0 where
  index : ℕ
  date : Date
  inside : index < length days
  same : epoch_day (get_or days index date) ≡ day

holiday_found : (days : List Date) (day : ℤ) → is_holiday days day ≡ true → IsFound days day
unfolding is_holiday
holiday_found days day e =
    let (k, date, inside, at, is) = Any-from_list_any (λ d. int_eq (epoch_day d) day) days e in
    record {
      index = k;
      date = date;
      inside = inside;
      same = ap epoch_day at ∙ (Decides-int_eq (epoch_day date) day).0 is;
    }

holiday_none : (day : ℤ) → is_holiday [] day ≡ false
unfolding is_holiday
holiday_none day = refl

holiday_both : (first rest : List Date) (day : ℤ) → is_holiday (first ++ rest) day ≡ (is_holiday first day || is_holiday rest day)
unfolding is_holiday
holiday_both first rest day = list_any-append (λ date. int_eq (epoch_day date) day) first rest

-- ---- one line

span_once : (text : List ℕ) (a b c d : Date) → IsSpan text a b → IsSpan text c d → (epoch_day a ≡ epoch_day c) × (epoch_day b ≡ epoch_day d)
span_once text a b c d (inl (one, same)) (inl (two, equal)) =
    let start = start_once text a c one two in
    (start, ap epoch_day same ∙ start ∙ ap epoch_day (sym equal))
span_once text a b c d (inl one) (inr two) = absurd (not_both text a c d one.0 two.0)
span_once text a b c d (inr one) (inl two) = absurd (not_both text c a b two.0 one.0)
span_once text a b c d (inr one) (inr two) = ends_once text a b c d one.0 two.0

empty_span : (text : List ℕ) (a b : Date) → text ≡ [] → IsSpan text a b → ⊥
empty_span text a b empty (inl one) =
    let long = start_length text a one.0 in
    let short : length text ≡ 0 = ap length empty in
    omega (arith, long, short)
empty_span text a b empty (inr two) =
    let long = (parts_are text a b two.0).long in
    let short : length text ≡ 0 = ap length empty in
    omega (arith, long, short)

span_has : (first last : Date) (days : List Date) (day : ℤ) → AreDays first last days → IsFound days day → IsWithin first last day
span_has first last days day are found =
    let at = are.each found.index found.date found.inside in
    let inside = found.inside in
    let same = found.same in
    let whole = are.whole in
    record {
      since = found.index;
      until = length days - suc found.index;
      after = sym same ∙ at;
      before = omega (arith, signed_arith, at, inside, same, whole);
    }

has_span : (first last : Date) (days : List Date) (other_first other_last : Date) (day : ℤ) → AreDays first last days
    → epoch_day first ≡ epoch_day other_first → epoch_day last ≡ epoch_day other_last → IsWithin other_first other_last day
    → is_holiday days day ≡ true
has_span first last days other_first other_last day are starts ends within =
    let whole = are.whole in
    let after = within.after in
    let before = within.before in
    let inside : within.since < length days = omega (arith, signed_arith, whole, after, before, starts, ends) in
    holiday_at days within.since first day inside
    (are.each within.since first inside ∙ ap (λ n. n +ℤ pos within.since) starts ∙ sym after)

line_to : (line : List ℕ) (days : List Date) (day : ℤ) → NamesDays line days → is_holiday days day ≡ true → HasDay line day
line_to line days day (inl (blank, none)) e =
    absurd (both_ways (is_holiday [] day) (holiday_none day) (subst (λ (d : List Date). is_holiday d day ≡ true) none e))
line_to line days day (inr (first, last, is, are)) e = (first, last, is, span_has first last days day are (holiday_found days day e))

line_back : (line : List ℕ) (days : List Date) (day : ℤ) → NamesDays line days → HasDay line day → is_holiday days day ≡ true
line_back line days day (inl (blank, none)) (first, last, is, within) = absurd (empty_span (entry line) first last blank is)
line_back line days day (inr (first, last, is, are)) (other_first, other_last, other, within) =
    let same = span_once (entry line) first last other_first other_last is other in
    has_span first last days other_first other_last day are same.0 same.1 within

-- ---- all lines

all_to : (all : List (List ℕ)) (days : List Date) (day : ℤ) → NameDays all days → is_holiday days day ≡ true → HaveDay all day
all_to [] days day none e = absurd (both_ways (is_holiday [] day) (holiday_none day) (subst (λ (d : List Date). is_holiday d day ≡ true) none e))
all_to (line ∷ others) days day (first, rest, is, are, whole) e =
    let P : List Date → Type 0 = λ d. is_holiday d day ≡ true in
    elim (or_split (is_holiday first day) (is_holiday rest day) (sym (holiday_both first rest day) ∙ subst P whole e)) [
      | inl here ↦ inl (line_to line first day is here)
      | inr later ↦ inr (all_to others rest day are later)
    ]

all_back : (all : List (List ℕ)) (days : List Date) (day : ℤ) → NameDays all days → HaveDay all day → is_holiday days day ≡ true
all_back [] days day none have = absurd have
all_back (line ∷ others) days day (first, rest, is, are, whole) (inl here) =
    ap (λ d. is_holiday d day) whole ∙ holiday_both first rest day
    ∙ or_left (is_holiday first day) (is_holiday rest day) (line_back line first day is here)
all_back (line ∷ others) days day (first, rest, is, are, whole) (inr later) =
    ap (λ d. is_holiday d day) whole ∙ holiday_both first rest day
    ∙ or_right (is_holiday first day) (is_holiday rest day) (all_back others rest day are later)

-- the days that lines name are exactly those of the list
pub exactly : (all : List (List ℕ)) (days : List Date) → NameDays all days → AreExactly all days
exactly all days named day = (all_to all days day named, all_back all days day named)
