-- The week of a list: the table of its activities, and what its rows say.
use Rattle.std.specs.Prelude.{◌≡◌, ℕ, ◌+◌, ◌-◌, Bool, true, false, if◌then◌else◌, List, [], ◌∷◌, ◌++◌, Option, Some, None, Result, Ok, drop, map, take, nat_lt, is_some}
use Rattle.plan_kernel.specs.declared.input.Arc.{Arc}
use Rattle.plan_kernel.specs.declared.input.Absence.{Absence}
use Rattle.plan_week.specs.declared.week.State.{State}
use Rattle.plan_week.specs.declared.week.State.TheVariants.{Open, Begun, Done}
use Rattle.plan_week.specs.declared.week.Week.{Week}
use Rattle.plan_table.specs.Cells.{same, same_name}
use Rattle.plan_table.specs.Table.{Activity, Resource, Table}
use Rattle.plan_weeklist.specs.declared.dates.Beginning.{Beginning}
use Rattle.plan_weeklist.specs.declared.dates.Beginning.TheVariants.{Missing, At, Interrupted}
use Rattle.plan_weeklist.specs.declared.dates.Dates.{Dates}
use Rattle.plan_weeklist.specs.declared.fault.WeekCode.TheVariants as code
use Rattle.plan_weeklist.specs.declared.fault.WeekError.{WeekError}
use Rattle.plan_weeklist.specs.Dates.{number_or}
use Rattle.plan_weeklist.specs.Faults.{Fails, Fault, fault, ◌>>=◌}
use Rattle.plan_weeklist.specs.Rows.{AbsenceRow, DatedRow, Shortage, WeekRows}

-- ---- the dates of an activity

-- the dates of the first row with an id
abbrev pub dates_by : List ℕ → List DatedRow → Option Dates
dates_by id [] = None
dates_by id (row ∷ rows) = if same row.id id then Some row.dates else dates_by id rows

-- the dates of the first one of some rows
abbrev pub first_dates : List DatedRow → Option Dates
first_dates [] = None
first_dates (row ∷ rows) = Some row.dates

-- The dates of activity k: those of the row with its id, or of row k of a list without ids. A list
-- has no row for a wait, which plan_spreadsheet makes an activity.
abbrev pub dates_of : Bool → List DatedRow → ℕ → Activity → Option Dates
dates_of true rows k a = dates_by a.id rows
dates_of false rows k a = first_dates (drop k rows)

-- no dates
abbrev pub no_dates : Dates
no_dates = record {
  earliest = None;
  fixed = None;
  begun = Missing;
  remaining = None;
  done = None;
  due = None;
}

abbrev pub dates_or : Option Dates → Dates
dates_or None = no_dates
dates_or (Some dates) = dates

abbrev pub dates_for : Bool → List DatedRow → ℕ → Activity → Dates
dates_for own rows k a = dates_or (dates_of own rows k a)

-- the number of activities before the first wait, if the first one of the rest has the number k
abbrev pub planned_from : Bool → List DatedRow → ℕ → List Activity → ℕ
planned_from own rows k [] = k
planned_from own rows k (a ∷ others) =
    if is_some (dates_of own rows k a) then planned_from own rows (k + 1) others else k

-- ---- durations and states

-- the duration of an activity: its remaining duration if it was interrupted
abbrev pub duration_by : ℕ → Beginning → Option ℕ → ℕ
duration_by lasts Missing remaining = lasts
duration_by lasts (At began) remaining = lasts
duration_by lasts Interrupted remaining = number_or lasts remaining

abbrev pub duration_of : ℕ → Dates → ℕ
duration_of lasts dates = duration_by lasts dates.begun dates.remaining

-- the state of an activity that isn't done. The rest of a begun one is the number that is given, or
-- else its duration less the time that has passed.
abbrev pub begun_state : ℕ → ℕ → Beginning → Dates → State
begun_state today lasts Missing dates = Open (number_or 0 dates.earliest) dates.fixed
begun_state today lasts Interrupted dates = Open (number_or 0 dates.earliest) dates.fixed
begun_state today lasts (At began) dates =
    Begun began (number_or (lasts - (today - began)) dates.remaining)

abbrev pub state_by : ℕ → ℕ → Option ℕ → Dates → State
state_by today lasts (Some ended) dates = Done ended
state_by today lasts None dates = begun_state today lasts dates.begun dates

-- the state of an activity: it is done, has begun, or is still to be started
abbrev pub state_of : ℕ → ℕ → Dates → State
state_of today lasts dates = state_by today lasts dates.done dates

-- ---- arcs

-- the place of the activity with a number
abbrev pub place_of : ℕ → ℕ
place_of number = number - 2

-- the first predecessor
abbrev pub first_number : List ℕ → ℕ
first_number [] = 2
first_number (number ∷ numbers) = number

-- an arc to activity k through a wait: from what the wait is behind, with its duration as lag
abbrev pub waiting_arc : ℕ → Activity → Arc
waiting_arc k wait =
    record { from = place_of (first_number wait.predecessors); to = k; lag = wait.duration }

-- the arc to activity k through the first one of some waits
abbrev pub first_arc : ℕ → List Activity → Arc
first_arc k [] = record { from = 0; to = k; lag = 0 }
first_arc k (wait ∷ waits) = waiting_arc k wait

-- the arc to activity k from a predecessor, which is an activity of the week or a wait
abbrev pub arc_from : ℕ → List Activity → ℕ → ℕ → Arc
arc_from count all k number =
    if nat_lt (place_of number) count then record { from = place_of number; to = k; lag = 0 }
    else first_arc k (drop (place_of number) all)

-- all arcs to activity k
abbrev pub arcs_to : ℕ → List Activity → ℕ → Activity → List Arc
arcs_to count all k a = map (arc_from count all k) a.predecessors

-- ---- absences

-- the first resource with a name, without regard to ASCII case, if the first one that is left has
-- the number k. No two columns of a list have headers that differ in case alone.
abbrev pub resource_from : List ℕ → ℕ → List Resource → Option ℕ
resource_from name k [] = None
resource_from name k (r ∷ others) =
    if same_name r.name name then Some k else resource_from name (k + 1) others

-- the absence of a resource; a note is no resource
abbrev pub absence_by : AbsenceRow → Shortage → Option ℕ → Result Absence Fault
absence_by row s None = fault code.NoResource row.line s.resource
absence_by row s (Some k) =
    Ok (record { resource = k; from = row.from; until = row.until; amount = s.amount })

-- the absences of a row, behind others
unfoldable pub shortages_in : List Resource → AbsenceRow → List Absence → List Shortage
    → Result (List Absence) Fault
shortages_in resources row before [] = Ok before
shortages_in resources row before (s ∷ others) = do
  absence ← absence_by row s (resource_from s.resource 0 resources)
  shortages_in resources row (before ++ absence ∷ []) others

-- the absences of rows, behind others
unfoldable pub absences_in : List Resource → List Absence → List AbsenceRow
    → Result (List Absence) Fault
absences_in resources before [] = Ok before
absences_in resources before (row ∷ rows) = do
  more ← shortages_in resources row before row.shortages
  absences_in resources more rows

-- ---- the week

-- the elements that the activities from activity k on give, appended to the earlier ones
unfoldable pub placed : {B : Type 0} → (ℕ → Activity → List B) → List B → ℕ → List Activity → List B
placed gives before k [] = before
placed gives before k (a ∷ others) = placed gives (before ++ gives k a) (k + 1) others

abbrev pub durations_at : Bool → List DatedRow → ℕ → Activity → List ℕ
durations_at own rows k a = duration_of a.duration (dates_for own rows k a) ∷ []

abbrev pub states_at : Bool → List DatedRow → ℕ → ℕ → Activity → List State
states_at own rows today k a = state_of today a.duration (dates_for own rows k a) ∷ []

abbrev pub dues_at : Bool → List DatedRow → ℕ → Activity → List (Option ℕ)
dues_at own rows k a = (dates_for own rows k a).due ∷ []

-- the numbers of the activities of a week, the first ones of all
pub record IsPlanned (own : Bool) (rows : List DatedRow) (today count : ℕ) (all : List Activity)
    (week : Week) : Type 0 where
  pub durations : week.durations.items ≡ placed (durations_at own rows) [] 0 (take count all)
  pub states : week.states.items ≡ placed (states_at own rows today) [] 0 (take count all)
  pub dues : week.dues.items ≡ placed (dues_at own rows) [] 0 (take count all)
  pub arcs : week.arcs.items ≡ placed (arcs_to count all) [] 0 (take count all)
  pub needs : map (λ needs. needs.items) week.needs.items ≡ map (λ a. a.needs) (take count all)

-- the number of activities of a table in its week: those before the first wait
abbrev pub planned : Table → WeekRows → ℕ
planned t r = planned_from t.own_ids r.rows 0 t.activities

-- the week of a table, whose list has these rows
pub record IsWeekOf (t : Table) (r : WeekRows) (today : Option ℕ) (week : Week) : Type 0 where
  pub activities : IsPlanned t.own_ids r.rows (number_or 0 today) (planned t r) t.activities week
  pub capacities : week.capacities.items ≡ map (λ resource. resource.capacity) t.resources
  pub absences : absences_in t.resources [] r.absences ≡ Ok week.absences.items
  pub now : week.today ≡ number_or 0 today

-- there is no week: an absence of what is no resource; out of memory may come at any time
abbrev pub IsNoWeek : Table → WeekRows → WeekError → Type 0
IsNoWeek t r error = Fails error (absences_in t.resources [] r.absences)
