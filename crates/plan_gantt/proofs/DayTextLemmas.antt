-- Texts of days, one after another.
use Rattle.std.proofs.Common.{◌≡◌, ℕ, zero, suc, ◌+◌, ◌-◌, ◌<◌, ◌⊎◌, inl, inr, List, [], ◌++◌, sym, ap, ◌∙◌, refl, subst, arith, codes}
use mathlib.Core.List.{append_assoc}
use Rattle.plan_gantt.specs.CalendarTable.{IsDayText, IsDaysText, IsDaysLine, AreDaysLines, IsDaysTable, ShowsBeyond}
use Rattle.plan_gantt.specs.declared.interval.Interval.{Interval}
use Rattle.plan_calendar.specs.WorkingDay.{Workdays, IsBeyond}

-- a text with P was appended
abbrev pub Appended : (List ℕ → Type 0) → List ℕ → List ℕ → Type 0
Appended P old new = (part : List ℕ) × P part × (new ≡ old ++ part)

-- the days of the first and the last instant of an interval that isn't empty
pub both_days : (calendar : Workdays) (start duration last : ℕ) (old mid new : List ℕ) → 0 < duration →
    start + (duration - 1) ≡ last → Appended (IsDayText calendar start) old mid →
    Appended (IsDayText calendar last) mid new → Appended (IsDaysText calendar start duration) old new
both_days calendar start zero last old mid new some is (first, a, e) (second, b, f) = absurd (omega (arith, some))
both_days calendar start (suc n) last old mid new some is (first, a, e) (second, b, f) =
    let place : last ≡ start + n = omega (arith, is) in
    (first ++ second, (first, second, a, subst (λ t. IsDayText calendar t second) place b, refl), f ∙ ap (λ bytes. bytes ++ second) e ∙ append_assoc old first second)

-- a line after its front
pub fronted_line : (calendar : Workdays) (front : List ℕ) (same interval : Interval)
    (old fronted new : List ℕ) → fronted ≡ old ++ front → same ≡ interval →
    Appended (IsDaysLine calendar [] same) fronted new → Appended (IsDaysLine calendar front interval) old new
fronted_line calendar front same interval old fronted new e is (line, (days, are, f), g) =
    let whole : front ++ line ≡ front ++ days ++ codes "\n" = ap (λ bytes. front ++ bytes) f ∙ sym (append_assoc front days (codes "\n")) in (
      front ++ line,
      (days, subst (λ v. IsDaysText calendar v.start v.duration days) is are, whole),
      g ∙ ap (λ bytes. bytes ++ line) e ∙ append_assoc old front line,
    )

-- a table with its next line
pub next_days_line : (calendar : Workdays) (heading : List ℕ) (front : ℕ → List ℕ) (interval : ℕ → Interval)
    (k : ℕ) (old new : List ℕ) → IsDaysTable calendar heading front interval k old →
    Appended (IsDaysLine calendar (front (k + 1)) (interval (k + 1))) old new →
    IsDaysTable calendar heading front interval (k + 1) new
next_days_line calendar heading front interval k old new (lines, are, e) (line, is, f) =
    let place : k + 1 ≡ suc k = omega arith in
    let more : AreDaysLines calendar front interval (suc k) (lines ++ line) =
    (lines, line, are, subst (λ j. IsDaysLine calendar (front j) (interval j) line) place is, refl) in
    (lines ++ line, subst (λ j. AreDaysLines calendar front interval j (lines ++ line)) (sym place) more, f ∙ ap (λ bytes. bytes ++ line) e ∙ append_assoc heading lines line)

-- the first or the last day of an interval that isn't empty is beyond
pub shown_beyond : (calendar : Workdays) (start duration : ℕ) → 0 < duration → IsBeyond calendar start ⊎ IsBeyond calendar (start + (duration - 1)) → ShowsBeyond calendar start duration
shown_beyond calendar start zero some beyond = absurd (omega (arith, some))
shown_beyond calendar start (suc n) some (inl first) = inl first
shown_beyond calendar start (suc n) some (inr last) =
    let place : start + (suc n - 1) ≡ start + n = omega arith in
    inr (subst (λ t. IsBeyond calendar t) place last)
