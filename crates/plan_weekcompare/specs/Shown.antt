-- The activities of a week that aren't done, with the starts that `plan solve` shows.
use Rattle.std.specs.Prelude.{ℕ, ◌+◌, List, [], ◌∷◌, ◌++◌, Option, Some, None, get_or, map}
use Rattle.std.specs.Option.{IfSome}
use Rattle.plan_formats.specs.Cells.{Cell, number}
use Rattle.plan_profile.specs.Usage.{IsInTime}
use Rattle.plan_table.specs.Names.{name_of}
use Rattle.plan_table.specs.Table.{Activity}
use Rattle.plan_views.specs.IdComparisons.{IdStart, id_starts}
use Rattle.plan_week.specs.declared.week.Week.{Week}
use Rattle.plan_week.specs.Weeks.{state_of}
use Rattle.plan_weekcompare.specs.declared.schedules.WeekSchedule as declared
use Rattle.plan_weeklist.specs.declared.listed.ListedWeek.{ListedWeek}
use Rattle.plan_weeks.specs.WeekTables.{planned, start_cell}

-- the start in a cell, if it has one
abbrev pub start_in : Cell → Option ℕ
start_in (number n) = Some n
start_in _ = None

-- the start that the table of a plan shows for the activity at a place; none if it is done
abbrev pub shown_at : Week → List ℕ → ℕ → Option ℕ
shown_at week starts k = start_in (start_cell (state_of week k) (get_or starts k 0))

-- an activity with its start, if one is shown
abbrev pub shown_row : List ℕ → Option ℕ → List IdStart
shown_row id None = []
shown_row id (Some start) = record { id = id; start = start } ∷ []

-- the shown rows of some activities; the first activity has the place k
abbrev pub shown_from : Week → List ℕ → ℕ → List Activity → List IdStart
shown_from week starts k [] = []
shown_from week starts k (a ∷ others) =
    shown_row a.id (shown_at week starts k) ++ shown_from week starts (k + 1) others

-- the shown rows of the activities of the week of a list, for these starts
abbrev pub shown_starts : ListedWeek → List ℕ → List IdStart
shown_starts listed starts =
    shown_from listed.week starts 0 (planned listed.week listed.table.activities)

-- no start that is shown is after the end of time
abbrev pub AreInTime : Week → List ℕ → Type 0
AreInTime week starts = (k : ℕ) → IfSome (shown_at week starts k) IsInTime

-- the same activities, as the program keeps them
abbrev pub rows_of : declared.WeekSchedule → List IdStart
rows_of schedule = id_starts (map name_of schedule.ids.items) schedule.starts.items
