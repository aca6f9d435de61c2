-- The job shop that the text of a list of orders says.
use Rattle.std.specs.Prelude.{ℕ, ◌+◌, ◌==◌, ◌&&◌, Bool, true, false, if◌then◌else◌, List, [], ◌∷◌, ◌++◌, Result, Ok, codes, count_by, drop, length, map, nat_le, nat_lt}
use Rattle.std.specs.String.{string_bytes}
use Rattle.plan_net.specs.Limits.{longest_sum}
use Rattle.plan_psplib.specs.Lines.{trim}
use Rattle.plan_orlib.specs.Shop.{most_jobs, most_machines}
use Rattle.plan_table.specs.declared.fault.TableCode.TheVariants as code
use Rattle.plan_table.specs.declared.shop_header.ShopColumn.{ShopColumn}
use Rattle.plan_table.specs.declared.shop_header.ShopColumn.TheVariants as columns
use Rattle.plan_table.specs.declared.shop_reading.ShopEntries as declared
use Rattle.plan_table.specs.declared.shop_table.ShopStep.{ShopStep}
use Rattle.plan_table.specs.Cells.{amount, name, same}
use Rattle.plan_table.specs.Csv.{Row}
use Rattle.plan_table.specs.Entries.{filled_from, is_blank_row}
use Rattle.plan_table.specs.Header.{key_of}
use Rattle.plan_table.specs.Listing.{rows_read}
use Rattle.plan_table.specs.Reading.{Fault, fault, check, ◌>>=◌}
use Rattle.plan_table.specs.Rows.{first_cell}
use Rattle.plan_table.specs.ShopTable.{ShopTable, is_of}

-- ---- the header

-- the header of a column
abbrev pub header_of : ShopColumn → List ℕ
header_of columns.Order = codes "order"
header_of columns.FirstMachine = codes "machine"
header_of columns.Time = codes "time"
header_of columns.Machine = codes "machine"

-- the column behind one: `order`, and then pairs of `machine` and `time`
abbrev pub next_column : ShopColumn → ShopColumn
next_column columns.Order = columns.FirstMachine
next_column columns.FirstMachine = columns.Time
next_column columns.Time = columns.Machine
next_column columns.Machine = columns.Time

-- a header can end before another pair
abbrev pub can_end : ShopColumn → Bool
can_end columns.Machine = true
can_end columns.Order = false
can_end columns.FirstMachine = false
can_end columns.Time = false

-- a test of the header of a column
abbrev pub column_holds : Bool → ShopColumn → Result (Unit {0}) Fault
column_holds holds column = if holds then Ok tt else fault code.NoDuration 0 (header_of column)

-- the header ends before a column: no other header stands in these cells
abbrev pub ends_before : ShopColumn → List (List ℕ) → Bool
ends_before column cells = can_end column && is_blank_row cells

-- the headers from a column on; columns without a header may stand behind the last pair
unfoldable pub shop_header : ShopColumn → List (List ℕ) → Result (Unit {0}) Fault
shop_header column [] = column_holds (can_end column) column
shop_header column (cell ∷ cells) =
    if ends_before column (cell ∷ cells) then Ok tt
    else column_holds (same (key_of cell) (header_of column)) column >>= λ known. shop_header (next_column column) cells

-- ---- names

-- the place of a name among those that are left, of which the first has the number n; the place
-- behind them if it is new
abbrev pub place_from : ℕ → List (List ℕ) → List ℕ → ℕ
place_from n [] text = n
place_from n (other ∷ others) text = if same other text then n else place_from (n + 1) others text

abbrev pub place_of : List (List ℕ) → List ℕ → ℕ
place_of names text = place_from 0 names text

-- names with a name, behind them if it is new
abbrev pub with_name : List (List ℕ) → List ℕ → List (List ℕ)
with_name names text = if nat_lt (place_of names text) (length names) then names else names ++ text ∷ []

-- names with a name, at most so many, and its number
unfoldable pub name_added : ℕ → ℕ → List (List ℕ) → List ℕ → Result (List (List ℕ) × ℕ) Fault
name_added most line names text = do
  room ← check (nat_lt (place_of names text) most) code.Limit line
  Ok (with_name names text, place_of names text)

-- the name of an order or a machine
unfoldable pub shop_name : ℕ → List ℕ → Result (List ℕ) Fault
shop_name line cell = if length cell == 0 then fault code.BadId line [] else name line cell

-- ---- rows

-- what rows say so far: the names of orders and machines, the steps, and their times in all
pub record ShopEntries : Type 0 where
  pub orders : List (List ℕ)
  pub machines : List (List ℕ)
  pub steps : List ShopStep
  pub total : ℕ

-- the same, as the program keeps it
abbrev pub entries_of : declared.ShopEntries → ShopEntries
entries_of e = record { orders = map string_bytes e.orders.items; machines = map string_bytes e.machines.items; steps = e.steps.items; total = e.total }

-- with a step of order k
unfoldable pub step_added : ℕ → ℕ → ShopEntries → List ℕ → List ℕ → Result ShopEntries Fault
step_added line k e machine time = do
  text ← shop_name line machine
  n ← amount code.BadDuration line time time
  found ← name_added most_machines line e.machines text
  fits ← check (nat_le (e.total + n) longest_sum) code.Limit line
  Ok (record {
    orders = e.orders;
    machines = found.0;
    steps = e.steps ++ record { order = k; machine = found.1; time = n } ∷ [];
    total = e.total + n;
  })

-- the step in a pair of cells; an empty pair is none
unfoldable pub step_read : ℕ → ℕ → ShopEntries → List ℕ → List ℕ → Result ShopEntries Fault
step_read line k e machine time = if length machine == 0 && length time == 0 then Ok e else step_added line k e machine time

-- the steps in pairs of cells
unfoldable pub steps_read : ℕ → ℕ → ShopEntries → List (List ℕ) → Result ShopEntries Fault
steps_read line k e [] = Ok e
steps_read line k e (machine ∷ []) = step_read line k e (trim machine) []
steps_read line k e (machine ∷ time ∷ cells) = do
  f ← step_read line k e (trim machine) (trim time)
  steps_read line k f cells

-- with the order of a row, and its number
unfoldable pub order_read : ℕ → ShopEntries → List ℕ → Result (ShopEntries × ℕ) Fault
order_read line e cell = do
  text ← shop_name line cell
  found ← name_added most_jobs line e.orders text
  Ok (record e { orders = found.0 }, found.1)

-- a row that isn't blank
unfoldable pub filled_row : ℕ → ShopEntries → Row → Result ShopEntries Fault
filled_row count e row = do
  found ← order_read row.line e (trim (first_cell row.cells))
  f ← steps_read row.line found.1 found.0 (drop 1 row.cells)
  whole ← check (nat_le (length row.cells) count) code.Cells row.line
  Ok f

unfoldable pub shop_row : ℕ → ShopEntries → Row → Result ShopEntries Fault
shop_row count e row = if is_blank_row row.cells then Ok e else filled_row count e row

-- what rows add
unfoldable pub shop_rows : ℕ → ShopEntries → List Row → Result ShopEntries Fault
shop_rows count e [] = Ok e
shop_rows count e (row ∷ rows) = do
  f ← shop_row count e row
  shop_rows count f rows

-- before any row
abbrev pub no_shop_entries : ShopEntries
no_shop_entries = record { orders = []; machines = []; steps = []; total = 0 }

-- ---- the table

-- the table of all rows
abbrev pub table_of : ShopEntries → ShopTable
table_of e = record { orders = e.orders; machines = e.machines; steps = e.steps }

-- order k has at most so many steps
abbrev pub order_fits : Bool → List ℕ → Result (Unit {0}) Fault
order_fits fits order = if fits then Ok tt else fault code.TooManySteps 0 order

-- the orders from order k on have at most so many steps
unfoldable pub orders_fit : ℕ → List ShopStep → ℕ → List (List ℕ) → Result (Unit {0}) Fault
orders_fit most steps k [] = Ok tt
orders_fit most steps k (order ∷ orders) = do
  fits ← order_fits (nat_le (count_by (is_of k) steps) most) order
  orders_fit most steps (k + 1) orders

-- the table has an order and a machine, and no order has more steps than there are
-- machines
unfoldable pub shop_finished : ShopEntries → Result ShopTable Fault
shop_finished e = do
  order ← check (nat_le 1 (length e.orders)) code.Limit 0
  machine ← check (nat_le 1 (length e.machines)) code.Limit 0
  fit ← orders_fit (length e.machines) e.steps 0 e.orders
  Ok (table_of e)

-- what records say, the first of which is the header
unfoldable pub shop_in : List Row → Result ShopTable Fault
shop_in [] = fault code.NoDuration 0 (codes "order")
shop_in (first ∷ rows) = do
  known ← shop_header columns.Order first.cells
  e ← shop_rows (length first.cells) no_shop_entries rows
  shop_finished e

-- what a text says
abbrev pub shop_table_read : List ℕ → Result ShopTable Fault
shop_table_read text = rows_read text >>= λ rows. shop_in (filled_from rows)
