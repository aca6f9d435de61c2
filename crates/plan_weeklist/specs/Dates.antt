-- The dates of an activity in a list.
use Rattle.std.specs.Prelude.{ℕ, ◌==◌, ◌&&◌, ◌||◌, Bool, true, false, if◌then◌else◌, List, [], Option, Some, None, Result, Ok, codes, length, max, nat_le, is_none, is_some}
use Rattle.plan_psplib.specs.Numbers.{number}
use Rattle.plan_table.specs.Cells.{same_name}
use Rattle.plan_table.specs.Csv.{Row}
use Rattle.plan_table.specs.Settlement.{cell_of}
use Rattle.plan_weeklist.specs.declared.fault.WeekCode.TheVariants as code
use Rattle.plan_weeklist.specs.declared.columns.Columns.{Columns}
use Rattle.plan_weeklist.specs.declared.dates.Beginning.{Beginning}
use Rattle.plan_weeklist.specs.declared.dates.Beginning.TheVariants.{Missing, At, Interrupted}
use Rattle.plan_weeklist.specs.declared.dates.Dates.{Dates}
use Rattle.plan_weeklist.specs.Faults.{Fault, fault, check, ◌>>=◌}

-- the latest instant in a list
abbrev pub latest_instant : ℕ
latest_instant = 10000000

-- ---- cells

-- a number, if it is no later than the latest instant
abbrev pub number_within : ℕ → List ℕ → Option ℕ → Result ℕ Fault
number_within line cell None = fault code.BadNumber line cell
number_within line cell (Some n) = if nat_le n latest_instant then Ok n else fault code.BadNumber line cell

-- the number in a cell; if there is none, the fault names the cell
unfoldable pub number_in : ℕ → List ℕ → Result ℕ Fault
number_in line cell = number_within line cell (number cell)

-- the number in a cell that isn't empty
abbrev pub date_in : ℕ → List ℕ → Result (Option ℕ) Fault
date_in line cell = if length cell == 0 then Ok None else number_in line cell >>= λ n. Ok (Some n)

-- the cell of a row in a column, an empty one if there is no such column
abbrev pub cell_in : Option ℕ → Row → List ℕ
cell_in None row = []
cell_in (Some k) row = cell_of k row

-- the number of a row in a column, if it has one
abbrev pub date_at : Option ℕ → Row → Result (Option ℕ) Fault
date_at place row = date_in row.line (cell_in place row)

-- ---- what has happened

-- today is known, if a cell tells what has happened
abbrev pub known_today : Option ℕ → ℕ → List ℕ → Result (Unit {0}) Fault
known_today today line cell = check (is_some today || length cell == 0) code.NoToday line cell

abbrev pub begun_from : Option ℕ → Beginning
begun_from None = Missing
begun_from (Some began) = At began

-- whether an activity has begun, by a cell: an instant, or `interrupted` in any case
unfoldable pub begun_in : Option ℕ → ℕ → List ℕ → Result Beginning Fault
begun_in today line cell = do
  known ← known_today today line cell
  if same_name cell (codes "interrupted") then Ok Interrupted else date_in line cell >>= λ date. Ok (begun_from date)

-- the instant at which an activity was done, by a cell
unfoldable pub done_in : Option ℕ → ℕ → List ℕ → Result (Option ℕ) Fault
done_in today line cell = do
  known ← known_today today line cell
  date_in line cell

-- ---- the dates of a row

-- an activity is still to be started: it isn't done and doesn't go on
abbrev pub is_ahead : Beginning → Option ℕ → Bool
is_ahead Missing ended = is_none ended
is_ahead Interrupted ended = is_none ended
is_ahead (At began) ended = false

-- an activity has begun, or was interrupted
abbrev pub has_begun : Beginning → Bool
has_begun Missing = false
has_begun Interrupted = true
has_begun (At began) = true

-- a number, or another one if there is none
abbrev pub number_or : ℕ → Option ℕ → ℕ
number_or other None = other
number_or other (Some n) = n

-- an appointment isn't before an instant
abbrev pub is_fixed_from : ℕ → Option ℕ → Bool
is_fixed_from instant None = true
is_fixed_from instant (Some fixed) = nat_le instant fixed

-- the appointment of an activity that is still to be started is neither before its earliest start
-- nor before today
abbrev pub keeps_fixed : Option ℕ → Dates → Bool
keeps_fixed today dates =
    if is_ahead dates.begun dates.done
    then is_fixed_from (max (number_or 0 today) (number_or 0 dates.earliest)) dates.fixed else true

-- only what has begun has a rest
abbrev pub keeps_rest : Dates → Bool
keeps_rest dates = is_none dates.remaining || has_begun dates.begun

-- the dates of a row agree
unfoldable pub dates_checked : Option ℕ → Columns → Row → Dates → Result Dates Fault
dates_checked today columns row dates = do
  kept ← check (keeps_fixed today dates) code.Contradiction row.line (cell_in columns.fixed row)
  begun ← check (keeps_rest dates) code.Contradiction row.line (cell_in columns.remaining row)
  Ok dates

-- the dates of a row
unfoldable pub dates_read : Option ℕ → Columns → Row → Result Dates Fault
dates_read today columns row = do
  earliest ← date_at columns.earliest row
  fixed ← date_at columns.fixed row
  begun ← begun_in today row.line (cell_in columns.begun row)
  remaining ← date_at columns.remaining row
  done ← done_in today row.line (cell_in columns.done row)
  due ← date_at columns.due row
  dates_checked today columns row (record { earliest = earliest; fixed = fixed; begun = begun; remaining = remaining; done = done; due = due })
