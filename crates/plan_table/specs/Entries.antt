-- The rows of a table: its activities, and the row of the capacities.
use Rattle.std.specs.Prelude.{ℕ, ◌+◌, ◌==◌, ◌&&◌, Bool, if◌then◌else◌, List, [], ◌∷◌, ◌++◌, Option, Some, None, Result, Ok, length, map, drop, take, not, nat_le, nat_lt, is_some, codes}
use Rattle.std.specs.List.{list_all}
use Rattle.std.specs.Option.{option_map}
use Rattle.std.specs.Fmt.{decimal}
use Rattle.plan_net.specs.Limits.{longest_sum}
use Rattle.plan_psplib.specs.Lines.{trim}
use Rattle.plan_table.specs.declared.fault.TableCode.TheVariants as code
use Rattle.plan_table.specs.declared.header.Column.{Column}
use Rattle.plan_table.specs.declared.header.Column.TheVariants as columns
use Rattle.plan_table.specs.declared.entries.Entries as declared
use Rattle.plan_table.specs.Csv.{Row}
use Rattle.plan_table.specs.Reading.{Fault, fault, check, ◌>>=◌}
use Rattle.plan_table.specs.Cells.{amount}
use Rattle.plan_table.specs.Header.{Head, same_kind}
use Rattle.plan_table.specs.Limits.{most_rows}
use Rattle.plan_table.specs.Predecessors.{Label}
use Rattle.plan_table.specs.Rows.{first_cell, activity_read}
use Rattle.plan_table.specs.Synonyms.{is_capacity_word}
use Rattle.plan_table.specs.Table.{Activity, activity_of}

-- a row in which nothing stands
abbrev pub is_blank_row : List (List ℕ) → Bool
is_blank_row cells = list_all (λ cell. length (trim cell) == 0) cells

-- the rows from the first one in which something stands: the header is the first of them
abbrev pub filled_from : List Row → List Row
filled_from [] = []
filled_from (row ∷ rows) = if is_blank_row row.cells then filled_from rows else row ∷ rows

-- where the first column of a kind is, if the first one that is left has the number k
abbrev pub place_from : Column → ℕ → List Head → Option ℕ
place_from kind k [] = None
place_from kind k (head ∷ heads) = if same_kind kind head.column then Some k else place_from kind (k + 1) heads

-- the column of the ids
abbrev pub id_place : List Head → Option ℕ
id_place heads = place_from columns.Id 0 heads

-- the column of the names
abbrev pub name_place : List Head → Option ℕ
name_place heads = place_from columns.Name 0 heads

-- the id of the row behind so many activities; without a column of ids it is its number
abbrev pub id_of : Option ℕ → ℕ → List (List ℕ) → List ℕ
id_of None count cells = decimal (count + 1)
id_of (Some place) count cells = trim (first_cell (drop place cells))

-- the name in a row
abbrev pub name_of : Option ℕ → List (List ℕ) → List ℕ
name_of None cells = []
name_of (Some place) cells = trim (first_cell (drop place cells))

-- the row of the capacities, without regard to ASCII case
abbrev pub is_capacity : Option ℕ → List ℕ → Bool
is_capacity place id = is_some place && is_capacity_word id

-- the row of an activity
abbrev pub is_activity : Option ℕ → List ℕ → List (List ℕ) → Bool
is_activity place id cells = not (is_blank_row cells) && not (is_capacity place id)

-- the ids and names of activities with one more, at most so many as a table has activities
unfoldable pub one_more : ℕ → List Label → Label → Result (List Label) Fault
one_more line ids id = do
  room ← check (nat_lt (length ids) most_rows) code.Limit line
  Ok (ids ++ id ∷ [])

-- the ids and names of activities with those of a row
abbrev pub id_added : Bool → ℕ → List Label → Label → Result (List Label) Fault
id_added activity line ids id = if activity then one_more line ids id else Ok ids

abbrev pub with_that : Option ℕ → Option ℕ → ℕ → List Label → List ℕ → List (List ℕ) → Result (List Label) Fault
with_that place names line ids id cells = id_added (is_activity place id cells) line ids (record { id = id; name = name_of names cells })

abbrev pub with_id : Option ℕ → Option ℕ → List Label → Row → Result (List Label) Fault
with_id place names ids row = with_that place names row.line ids (id_of place (length ids) row.cells) row.cells

-- the ids and names of the activities, behind others
unfoldable pub ids_at : Option ℕ → Option ℕ → List Label → List Row → Result (List Label) Fault
ids_at place names ids [] = Ok ids
ids_at place names ids (row ∷ rows) = do
  more ← with_id place names ids row
  ids_at place names more rows

-- what rows say so far: the activities, the capacities if their row has come, and the durations in
-- all
pub record Entries : Type 0 where
  pub activities : List Activity
  pub capacities : Option (List (Option ℕ))
  pub total : ℕ

-- the same, as the program keeps it
abbrev pub entries_of : declared.Entries → Entries
entries_of e = record { activities = map activity_of e.activities.items; capacities = option_map (λ v. v.items) e.capacities; total = e.total }

-- with one activity more
unfoldable pub added : ℕ → Entries → Activity → Result Entries Fault
added line e a = do
  fits ← check (nat_le (e.total + a.duration) longest_sum) code.Limit line
  Ok (record { activities = e.activities ++ a ∷ []; capacities = e.capacities; total = e.total + a.duration })

-- the row of an activity
unfoldable pub activity_row : List Head → List Label → Entries → ℕ → List ℕ → List (List ℕ) → Result Entries Fault
activity_row heads ids e line id cells = do
  room ← check (nat_lt (length e.activities) most_rows) code.Limit line
  a ← activity_read ids (take (length e.activities) ids) line id heads cells
  added line e a

-- the capacity in a cell, if it has one
abbrev pub capacity_in : ℕ → List ℕ → List ℕ → Result (Option ℕ) Fault
capacity_in line resource cell = if length cell == 0 then Ok None else amount code.BadNeed line resource cell >>= λ n. Ok (Some n)

-- the capacities with that of a column
unfoldable pub capacity_read : ℕ → List (Option ℕ) → Column → List ℕ → List ℕ → Result (List (Option ℕ)) Fault
capacity_read line before columns.Resource resource cell = capacity_in line resource cell >>= λ c. Ok (before ++ c ∷ [])
capacity_read line before columns.Duration resource cell = Ok before
capacity_read line before columns.Id resource cell = Ok before
capacity_read line before columns.Name resource cell = Ok before
capacity_read line before columns.Predecessors resource cell = Ok before
capacity_read line before columns.Note resource cell = Ok before
capacity_read line before columns.Nothing resource cell = Ok before

unfoldable pub capacities_read : ℕ → List (Option ℕ) → List Head → List (List ℕ) → Result (List (Option ℕ)) Fault
capacities_read line before [] cells = Ok before
capacities_read line before (head ∷ heads) cells = do
  found ← capacity_read line before head.column head.name (trim (first_cell cells))
  capacities_read line found heads (drop 1 cells)

-- the row of the capacities comes once
abbrev pub first_capacities : Bool → ℕ → Result (Unit {0}) Fault
first_capacities come line = if come then fault code.IdTwice line (codes "capacity") else Ok tt

unfoldable pub capacity_row : List Head → Entries → ℕ → List (List ℕ) → Result Entries Fault
capacity_row heads e line cells = do
  new ← first_capacities (is_some e.capacities) line
  found ← capacities_read line [] heads cells
  whole ← check (nat_le (length cells) (length heads)) code.Cells line
  Ok (record { activities = e.activities; capacities = Some found; total = e.total })

-- the row with an id
abbrev pub row_by : Bool → List Head → List Label → Entries → ℕ → List ℕ → List (List ℕ) → Result Entries Fault
row_by capacity heads ids e line id cells = if capacity then capacity_row heads e line cells else activity_row heads ids e line id cells

-- a row that isn't blank
abbrev pub filled_row : List Head → Option ℕ → List Label → Entries → ℕ → List ℕ → List (List ℕ) → Result Entries Fault
filled_row heads place ids e line id cells = row_by (is_capacity place id) heads ids e line id cells

-- what a row adds
unfoldable pub entry_read : List Head → Option ℕ → List Label → Entries → Row → Result Entries Fault
entry_read heads place ids e row =
    if is_blank_row row.cells then Ok e
    else filled_row heads place ids e row.line (id_of place (length e.activities) row.cells) row.cells

-- what rows add
unfoldable pub entries_at : List Head → Option ℕ → List Label → Entries → List Row → Result Entries Fault
entries_at heads place ids e [] = Ok e
entries_at heads place ids e (row ∷ rows) = do
  f ← entry_read heads place ids e row
  entries_at heads place ids f rows

-- before any row
abbrev pub no_entries : Entries
no_entries = record { activities = []; capacities = None; total = 0 }

-- what the rows of a table say; too many rows come before any other error of a row, and a table
-- has an activity
unfoldable pub entries_in : List Head → List Row → Result Entries Fault
entries_in heads rows = do
  ids ← ids_at (id_place heads) (name_place heads) [] rows
  e ← entries_at heads (id_place heads) ids no_entries rows
  some ← check (nat_le 1 (length e.activities)) code.Limit 0
  Ok e
