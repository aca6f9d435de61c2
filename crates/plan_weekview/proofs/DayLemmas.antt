-- The rows of working days, one more.
use Rattle.std.proofs.Common.{◌≡◌, ℕ, suc, ◌+◌, ◌++◌, List, [], ◌∷◌, map, Vec, sym, ap, ◌∙◌, subst, arith}
use Rattle.std.proofs.lemmas.List.{map-append}
use Rattle.std.specs.Global.{Global}
use Rattle.plan_calendar.specs.WorkingDay.{Workdays}
use Rattle.plan_formats.specs.Tables.{cells_of, rows_of}
use Rattle.plan_formats.specs.declared.cell.Cell as declared
use Rattle.plan_week.specs.declared.week.Week.{Week}
use Rattle.plan_weeks.specs.declared.planning.WeekPlan.{WeekPlan}
use Rattle.plan_weekview.specs.WeekDays.{AreDayRows, IsDayRow}

-- the rows so far with the next one
pub next_row : (calendar : Workdays) (week : Week) (p : WeekPlan) (k : ℕ) (old new : List (Vec declared.Cell Global)) (v : Vec declared.Cell Global)
    → AreDayRows calendar week p k (rows_of old) → IsDayRow calendar week p k (cells_of v.items)
    → new ≡ old ++ v ∷ [] → AreDayRows calendar week p (k + 1) (rows_of new)
next_row calendar week p k old new v so_far is step =
    let place : k + 1 ≡ suc k = omega arith in
    let made : rows_of new ≡ rows_of old ++ cells_of v.items ∷ [] =
    ap rows_of step ∙ map-append (λ (r : Vec declared.Cell Global). cells_of r.items) old (v ∷ []) in
    let more : AreDayRows calendar week p (suc k) (rows_of new) = (rows_of old, cells_of v.items, so_far, is, made) in
    subst (λ j. AreDayRows calendar week p j (rows_of new)) (sym place) more
