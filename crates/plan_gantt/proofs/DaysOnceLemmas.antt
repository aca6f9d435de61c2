-- Equivalent calendars give one table of working days, or a day beyond.
use Rattle.std.proofs.Common.{ℕ, zero, suc, ◌≡◌, ◌+◌, ◌-◌, ◌≤◌, inl, inr, List, [], ◌∷◌, ◌++◌, refl, sym, ◌∙◌, ap, subst, arith, ℤ}
use Rattle.std.proofs.lemmas.Bool.{cases_eq}
use Rattle.jiff_core.specs.Date.{epoch_day}
use Rattle.jiff_core.specs.declared.civil.date.Date.{Date}
use Rattle.jiff_core.proofs.DateLemmas.{epoch_day_injective}
use Rattle.jiff.specs.Words.{date_text}
use Rattle.jiff_fmt.specs.Text.{year_text, pad2}
use Rattle.plan_net.specs.Network.{Net, count_of}
use Rattle.plan_shop.specs.Shop.{JobShop, count_steps}
use Rattle.plan_calendar.specs.WorkingDay.{Workdays, IsWorkingDay, IsBeyond}
use Rattle.plan_calendar.proofs.DayLemmas.{one_day}
use Rattle.plan_calendar.proofs.CalendarOnceLemmas.{GoAlike, working_alike}
use Rattle.plan_gantt.specs.Column.{column, number_column}
use Rattle.plan_gantt.specs.Charts.{activity_interval}
use Rattle.plan_gantt.specs.ShopCharts.{IsShopCalendarTable, HasStepBeyond, step_front, step_interval, step_days_heading}
use Rattle.plan_gantt.specs.CalendarTable.{IsDayText, IsDaysText, IsDaysLine, AreDaysLines, IsDaysTable, IsCalendarTable, ShowsBeyond, HasDayBeyond, HasActivityBeyond, activity_days_heading}
use Rattle.plan_gantt.specs.declared.interval.Interval.{Interval}

-- days with the same number have the same text
day_written : (a b : Date) → epoch_day a ≡ epoch_day b → date_text a ≡ date_text b
day_written a b same =
    let parts = epoch_day_injective a b same in
    ap (λ (y : ℤ). year_text y ++ 45 ∷ [] ++ pad2 a.month ++ 45 ∷ [] ++ pad2 a.day) parts.0
    ∙ ap (λ (m : ℕ). year_text b.year ++ 45 ∷ [] ++ pad2 m ++ 45 ∷ [] ++ pad2 a.day) parts.1
    ∙ ap (λ (n : ℕ). year_text b.year ++ 45 ∷ [] ++ pad2 b.month ++ 45 ∷ [] ++ pad2 n) parts.2

-- an instant has one day text
pub day_text_once : (c d : Workdays) (t u : ℕ) (x y : List ℕ) → GoAlike c d → t ≡ u → IsDayText c t x → IsDayText d u y → x ≡ y
day_text_once c d t u x y same at (a, day, is_x) (b, other, is_y) =
    let here = subst (λ (n : ℕ). IsWorkingDay d n a) at (working_alike c d t a same day) in
    is_x ∙ ap (column 12) (day_written a b (one_day d u a b here other)) ∙ sym is_y

days_text_once : (c d : Workdays) (start n : ℕ) (x y : List ℕ) → GoAlike c d → IsDaysText c start n x → IsDaysText d start n y → x ≡ y
days_text_once c d start zero x y same first second = first ∙ sym second
days_text_once c d start (suc n) x y same (a, b, day_a, day_b, is_x) (p, q, day_p, day_q, is_y) =
    is_x ∙ ap (λ (text : List ℕ). text ++ b) (day_text_once c d start start a p same refl day_a day_p)
    ∙ ap (λ (text : List ℕ). p ++ text) (day_text_once c d (start + n) (start + n) b q same refl day_b day_q) ∙ sym is_y

line_once : (c d : Workdays) (front : List ℕ) (v : Interval) (x y : List ℕ) → GoAlike c d → IsDaysLine c front v x → IsDaysLine d front v y → x ≡ y
line_once c d front v x y same (a, days, is_x) (b, others, is_y) =
    is_x ∙ ap (λ (text : List ℕ). front ++ text ++ 10 ∷ []) (days_text_once c d v.start v.duration a b same days others) ∙ sym is_y

lines_once : (c d : Workdays) (front : ℕ → List ℕ) (v : ℕ → Interval) (n : ℕ) (x y : List ℕ) → GoAlike c d → AreDaysLines c front v n x → AreDaysLines d front v n y → x ≡ y
lines_once c d front v zero x y same first second = first ∙ sym second
lines_once c d front v (suc n) x y same (a, k, are_a, is_k, is_x) (b, l, are_b, is_l, is_y) =
    is_x ∙ ap (λ (text : List ℕ). text ++ k) (lines_once c d front v n a b same are_a are_b)
    ∙ ap (λ (text : List ℕ). b ++ text) (line_once c d (front (suc n)) (v (suc n)) k l same is_k is_l) ∙ sym is_y

table_once : (c d : Workdays) (heading : List ℕ) (front : ℕ → List ℕ) (v : ℕ → Interval) (n : ℕ) (x y : List ℕ)
    → GoAlike c d → IsDaysTable c heading front v n x → IsDaysTable d heading front v n y → x ≡ y
table_once c d heading front v n x y same (a, are_a, is_x) (b, are_b, is_y) =
    is_x ∙ ap (λ (text : List ℕ). heading ++ text) (lines_once c d front v n a b same are_a are_b) ∙ sym is_y

-- a schedule of a project has one table of working days by equivalent calendars
pub project_days_once : (c d : Workdays) (net : Net) (starts x y : List ℕ) → GoAlike c d → IsCalendarTable c net starts x → IsCalendarTable d net starts y → x ≡ y
project_days_once c d net starts x y same first second =
    table_once c d activity_days_heading (λ j. number_column 4 j) (activity_interval net starts) (count_of net) x y same first second

-- and so has one of a shop
pub shop_days_once : (c d : Workdays) (s : JobShop) (starts x y : List ℕ) → GoAlike c d → IsShopCalendarTable c s starts x → IsShopCalendarTable d s starts y → x ≡ y
shop_days_once c d s starts x y same first second =
    table_once c d step_days_heading (λ n. step_front s (n - 1)) (λ n. step_interval s starts (n - 1)) (count_steps s) x y same first second

-- an instant with a day isn't beyond
day_apart : (c d : Workdays) (t u : ℕ) (x : List ℕ) → GoAlike c d → t ≡ u → IsDayText c t x → IsBeyond d u → ⊥
day_apart c d t u x same at (date, day, is) beyond = beyond date (subst (λ (n : ℕ). IsWorkingDay d n date) at (working_alike c d t date same day))

days_apart : (c d : Workdays) (start n : ℕ) (x : List ℕ) → GoAlike c d → IsDaysText c start n x → ShowsBeyond d start n → ⊥
days_apart c d start zero x same days beyond = beyond
days_apart c d start (suc n) x same (a, b, day_a, day_b, is) (inl first) = day_apart c d start start a same refl day_a first
days_apart c d start (suc n) x same (a, b, day_a, day_b, is) (inr last) = day_apart c d (start + n) (start + n) b same refl day_b last

lines_apart : (c d : Workdays) (front : ℕ → List ℕ) (v : ℕ → Interval) (n : ℕ) (x : List ℕ) → GoAlike c d → AreDaysLines c front v n x → (j : ℕ) → 1 ≤ j → j ≤ n → HasDayBeyond d (v j) → ⊥
lines_apart c d front v zero x same are j low high beyond = absurd (omega (arith, low, high))
lines_apart c d front v (suc n) x same (a, k, are, (days, here, e), is) j low high beyond = elim (cases_eq j (suc n)) [
  | inl last ↦ days_apart c d (v (suc n)).start (v (suc n)).duration days same here (subst (λ (m : ℕ). HasDayBeyond d (v m)) last beyond)
  | inr other ↦ lines_apart c d front v n a same are j low (omega (arith, high, other)) beyond
]

-- if a table shows the days of a project, no shown day is beyond
pub project_days_apart : (c d : Workdays) (net : Net) (starts x : List ℕ) → GoAlike c d → IsCalendarTable c net starts x → HasActivityBeyond d net starts → ⊥
project_days_apart c d net starts x same (lines, are, is) (j, activity, beyond) =
    lines_apart c d (λ j. number_column 4 j) (activity_interval net starts) (count_of net) lines same are j activity.0 activity.1 beyond

-- and so for a shop
pub shop_days_apart : (c d : Workdays) (s : JobShop) (starts x : List ℕ) → GoAlike c d → IsShopCalendarTable c s starts x → HasStepBeyond d s starts → ⊥
shop_days_apart c d s starts x same (lines, are, is) (k, inside, beyond) =
    let place : k ≡ k + 1 - 1 = omega arith in
    let there = subst (λ (n : ℕ). HasDayBeyond d (step_interval s starts n)) place beyond in
    lines_apart c d (λ n. step_front s (n - 1)) (λ n. step_interval s starts (n - 1)) (count_steps s) lines same are (k + 1) (omega arith) (omega (arith, inside)) there
