-- The table of the working days of a week's plan.
use Rattle.std.specs.Prelude.{◌≡◌, ℕ, zero, suc, ◌+◌, ◌-◌, ◌<◌, ◌⊎◌, Bool, true, false}
use Rattle.std.specs.Prelude.{List, [], ◌∷◌, ◌++◌, Option, Some, None, codes, get_or, length, nat_lt}
use Rattle.plan_calendar.specs.WorkingDay.{IsBeyond, Workdays}
use Rattle.plan_formats.specs.Cells.{Cell, empty, number}
use Rattle.plan_formats.specs.Columns.{Column}
use Rattle.plan_formats.specs.Tables.{Table}
use Rattle.plan_views.specs.DayTables.{IsDayCell, day_columns, plain_view_of}
use Rattle.plan_week.specs.declared.week.State.{State}
use Rattle.plan_week.specs.declared.week.State.TheVariants.{Open, Begun, Done}
use Rattle.plan_week.specs.declared.week.Week.{Week}
use Rattle.plan_week.specs.Weeks.{end_of, state_of}
use Rattle.plan_week.specs.Tardiness.{tardiness_of}
use Rattle.plan_weeks.specs.WeekTables.{late_columns, right_column}
use Rattle.plan_weeks.specs.declared.planning.Lateness.{Lateness}
use Rattle.plan_weeks.specs.declared.planning.WeekPlan.{WeekPlan}

-- the instant at which an activity begins or began, for the start in a plan; for a done activity
-- it isn't known
abbrev pub begin_of : State → ℕ → Option ℕ
begin_of (Open earliest fixed) start = Some start
begin_of (Begun began remaining) start = Some began
begin_of (Done ended) start = None

-- the begin of an activity of a week in a plan
abbrev pub begins_at : Week → List ℕ → ℕ → Option ℕ
begins_at week starts k = begin_of (state_of week k) (get_or starts k 0)

-- an activity takes time before its end; if its begin isn't known, there is time before its end
abbrev pub takes_time : Option ℕ → ℕ → Bool
takes_time None ends = nat_lt 0 ends
takes_time (Some begin) ends = nat_lt begin ends

-- a cell has the day of an instant, if it is shown; else it is empty
abbrev pub IsDayIf : Workdays → Bool → ℕ → Cell → Type 0
IsDayIf calendar false t cell = cell ≡ empty
IsDayIf calendar true t cell = IsDayCell calendar t cell

-- the day of the first instant of an activity that takes time
abbrev pub IsFirstDay : Workdays → Option ℕ → ℕ → Cell → Type 0
IsFirstDay calendar None ends cell = cell ≡ empty
IsFirstDay calendar (Some begin) ends cell = IsDayIf calendar (nat_lt begin ends) begin cell

-- the day of its last instant
abbrev pub IsLastDay : Workdays → Option ℕ → ℕ → Cell → Type 0
IsLastDay calendar begin ends cell = IsDayIf calendar (takes_time begin ends) (ends - 1) cell

-- the tardiness of an activity in the least tardy plan
abbrev pub late_in : Week → List ℕ → ℕ → Option Lateness → Option ℕ
late_in week starts k None = None
late_in week starts k (Some lateness) = Some (tardiness_of week starts k)

-- the cells of a row
abbrev pub row_cells : ℕ → Cell → Cell → Option ℕ → List Cell
row_cells n first last None = number n ∷ first ∷ last ∷ []
row_cells n first last (Some late) = number n ∷ first ∷ last ∷ number late ∷ []

-- the row of activity k, whose number is k + 2 as in a project file
pub record IsDayRow (calendar : Workdays) (week : Week) (p : WeekPlan) (k : ℕ) (row : List Cell)
    : Type 0 where
  pub first : Cell
  pub last : Cell
  pub begins : IsFirstDay calendar (begins_at week p.starts.items k)
      (end_of week p.starts.items k) first
  pub ends : IsLastDay calendar (begins_at week p.starts.items k)
      (end_of week p.starts.items k) last
  pub cells : row ≡ row_cells (k + 2) first last (late_in week p.starts.items k p.lateness)

-- the rows of the first n activities
abbrev pub AreDayRows : Workdays → Week → WeekPlan → ℕ → List (List Cell) → Type 0
AreDayRows calendar week p zero rows = rows ≡ []
AreDayRows calendar week p (suc n) rows =
    (before : List (List Cell)) × (row : List Cell) × AreDayRows calendar week p n before
    × IsDayRow calendar week p n row × (rows ≡ before ++ row ∷ [])

-- the columns
abbrev pub week_day_columns : Option Lateness → List Column
week_day_columns lateness =
    right_column (codes "act") (codes "activity") 4 ∷ (day_columns ++ late_columns lateness)

-- a table has the working days of all activities of a plan
pub record AreWeekDays (calendar : Workdays) (week : Week) (p : WeekPlan) (table : Table)
    : Type 0 where
  pub rows : List (List Cell)
  pub days : AreDayRows calendar week p (length week.durations.items) rows
  pub whole : table ≡ plain_view_of (week_day_columns p.lateness) rows

-- the first day of an activity would be after 9999-12-31
abbrev pub IsFirstBeyond : Workdays → Option ℕ → ℕ → Type 0
IsFirstBeyond calendar None ends = ⊥
IsFirstBeyond calendar (Some begin) ends = (begin < ends) × IsBeyond calendar begin

-- the day of an instant, if it is shown, would be after 9999-12-31
abbrev pub IsBeyondIf : Workdays → Bool → ℕ → Type 0
IsBeyondIf calendar false t = ⊥
IsBeyondIf calendar true t = IsBeyond calendar t

-- its last day would be after 9999-12-31
abbrev pub IsLastBeyond : Workdays → Option ℕ → ℕ → Type 0
IsLastBeyond calendar begin ends = IsBeyondIf calendar (takes_time begin ends) (ends - 1)

-- a day that the row of activity k shows would be after 9999-12-31
abbrev pub IsRowBeyond : Workdays → Week → WeekPlan → ℕ → Type 0
IsRowBeyond calendar week p k =
    IsFirstBeyond calendar (begins_at week p.starts.items k) (end_of week p.starts.items k)
    ⊎ IsLastBeyond calendar (begins_at week p.starts.items k) (end_of week p.starts.items k)

-- the same for some row
abbrev pub HasWeekDayBeyond : Workdays → Week → WeekPlan → Type 0
HasWeekDayBeyond calendar week p =
    (k : ℕ) × (k < length week.durations.items) × IsRowBeyond calendar week p k
