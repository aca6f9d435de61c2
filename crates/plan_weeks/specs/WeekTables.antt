-- The table of a plan of a week.
use Rattle.std.specs.Prelude.{ℕ, ◌+◌, ◌==◌, Bool, if◌then◌else◌, List, [], ◌∷◌, ◌++◌}
use Rattle.std.specs.Prelude.{Option, Some, None, codes, filter, get_or, length, map, nat_lt, take}
use Rattle.std.specs.List.{list_all, range_with_len}
use Rattle.plan_formats.specs.Cells.{Cell, number, empty}
use Rattle.plan_formats.specs.Columns.{Column}
use Rattle.plan_formats.specs.IdTables.{with_ids}
use Rattle.plan_formats.specs.NamedTables.{with_names}
use Rattle.plan_formats.specs.TableLines.{Line, optimal, between, makespan, tardiness, late}
use Rattle.plan_formats.specs.Tables.{Table}
use Rattle.plan_formats.specs.declared.column.Layout.TheVariants as layout
use Rattle.plan_table.specs.Names.{Name}
use Rattle.plan_table.specs.Table.{Activity}
use Rattle.plan_week.specs.declared.week.State.{State}
use Rattle.plan_week.specs.declared.week.State.TheVariants.{Open, Begun, Done}
use Rattle.plan_week.specs.declared.week.Week.{Week}
use Rattle.plan_week.specs.Tardiness.{tardiness_of}
use Rattle.plan_week.specs.Weeks.{end_of, state_of}
use Rattle.plan_weeks.specs.declared.planning.Lateness.{Lateness}
use Rattle.plan_weeks.specs.declared.planning.WeekPlan.{WeekPlan}

-- the places of the activities of a week
abbrev pub places : Week → List ℕ
places week = range_with_len 0 (length week.durations.items)

-- ---- rows

-- the duration of an activity in whole
abbrev pub lasts_of : Week → ℕ → ℕ
lasts_of week k = get_or week.durations.items k 0

-- the start of an activity, or the instant at which it began; empty if it is done
abbrev pub start_cell : State → ℕ → Cell
start_cell (Open earliest fixed) start = number start
start_cell (Begun began remaining) start = number began
start_cell (Done ended) start = empty

-- the tardiness of an activity in the least tardy plan
abbrev pub late_cells : Week → List ℕ → ℕ → Option Lateness → List Cell
late_cells week starts k None = []
late_cells week starts k (Some lateness) = number (tardiness_of week starts k) ∷ []

-- the row of activity k, whose number is k + 2 as in a project file
unfoldable pub week_row : Week → List ℕ → Option Lateness → ℕ → List Cell
week_row week starts lateness k =
    number (k + 2) ∷ number (lasts_of week k) ∷ start_cell (state_of week k) (get_or starts k 0)
    ∷ number (end_of week starts k) ∷ late_cells week starts k lateness

-- ---- columns

-- a column that is aligned right
abbrev pub right_column : List ℕ → List ℕ → ℕ → Column
right_column heading word places =
    record { heading = heading; word = word; layout = layout.Right places }

abbrev pub late_columns : Option Lateness → List Column
late_columns None = []
late_columns (Some lateness) = right_column (codes "late") (codes "late") 8 ∷ []

abbrev pub week_columns : Option Lateness → List Column
week_columns lateness =
    right_column (codes "act") (codes "activity") 4 ∷ right_column (codes "d") (codes "duration") 8
    ∷ right_column (codes "start") (codes "start") 8 ∷ right_column (codes "end") (codes "end") 8
    ∷ late_columns lateness

-- ---- lines

-- the makespan, which is the least one if it is the bound
abbrev pub bound_line : ℕ → ℕ → Line
bound_line lower ends = if nat_lt lower ends then between lower ends else optimal ends

-- the lines above the rows: the bounds of the tardiness, and those of the makespan
abbrev pub lines_above : WeekPlan → Option Lateness → List Line
lines_above p None = bound_line p.lower p.makespan ∷ []
lines_above p (Some lateness) =
    tardiness lateness.least lateness.late ∷ bound_line p.lower p.makespan ∷ []

-- the number of late activities
abbrev pub late_count : Week → List ℕ → ℕ
late_count week starts = length (filter (nat_lt 0) (map (tardiness_of week starts) (places week)))

-- the lines below the rows: the makespan, and how many activities are late
abbrev pub lines_below : Week → WeekPlan → Option Lateness → List Line
lines_below week p None = makespan p.makespan ∷ []
lines_below week p (Some lateness) =
    makespan p.makespan ∷ late (late_count week p.starts.items) (length week.durations.items) ∷ []

-- ---- the table

-- the rows of all activities
abbrev pub week_rows : Week → WeekPlan → List (List Cell)
week_rows week p = map (week_row week p.starts.items p.lateness) (places week)

-- the table of a plan, with numbers of activities
unfoldable pub week_view : Week → WeekPlan → Table
week_view week p = record {
  above = lines_above p p.lateness;
  columns = week_columns p.lateness;
  rows = week_rows week p;
  below = lines_below week p p.lateness;
}

-- the ids and the names of activities, of which the first one has the number n
abbrev pub ids_from : ℕ → List Activity → List Name
ids_from n [] = []
ids_from n (a ∷ others) = record { number = n; name = a.id } ∷ ids_from (n + 1) others

abbrev pub names_from : ℕ → List Activity → List Name
names_from n [] = []
names_from n (a ∷ others) = record { number = n; name = a.name } ∷ names_from (n + 1) others

-- no activity has a name
abbrev pub are_nameless : List Activity → Bool
are_nameless activities = list_all (λ a. length a.name == 0) activities

-- a table with the names of activities, if there are any
abbrev pub named : List Activity → Table → Table
named activities t = if are_nameless activities then t else with_names (names_from 2 activities) t

-- the activities of a week, which are the first ones of its list; the others are waits
abbrev pub planned : Week → List Activity → List Activity
planned week activities = take (length week.durations.items) activities

-- the table of a plan, with the ids and the names of the activities
abbrev pub listed_view : List Activity → Week → WeekPlan → Table
listed_view activities week p =
    with_ids (ids_from 2 (planned week activities))
    (named (planned week activities) (week_view week p))
