-- The list that a text says: its activities, its resources, and whether the ids are its own.
use Rattle.std.specs.Prelude.{ℕ, ◌+◌, if◌then◌else◌, List, [], ◌∷◌, ◌++◌, Option, Some, None, Result, Ok, Err, length, take, nat_le, slice_index_or, count_by, is_some}
use Rattle.std.specs.Str.{is_utf8}
use Rattle.std.specs.Str.Lossy.{utf8_valid_len}
use Rattle.plan_psplib.specs.Lines.{is_line_feed}
use Rattle.plan_psplib.specs.Plain.{longest_text}
use Rattle.plan_table.specs.declared.fault.TableCode.TheVariants as code
use Rattle.plan_table.specs.declared.header.Column.{Column}
use Rattle.plan_table.specs.declared.header.Column.TheVariants as columns
use Rattle.plan_table.specs.declared.listing.Listing as declared
use Rattle.plan_table.specs.Csv.{Row, records_of}
use Rattle.plan_table.specs.Reading.{Fault, fault, check, ◌>>=◌}
use Rattle.plan_table.specs.Header.{Head}
use Rattle.plan_table.specs.Entries.{entries_in, filled_from, id_place}
use Rattle.plan_table.specs.Overrides.{Override, given, or_row, overrides_checked}
use Rattle.plan_table.specs.Settlement.{header}
use Rattle.plan_table.specs.Table.{Resource, Table, table_of}

-- the same, as the program keeps it
abbrev pub listing_of : declared.Listing → Table
listing_of l = table_of l.own_ids l.activities.items l.resources.items

-- a capacity that is known
abbrev pub known_capacity : Option ℕ → List ℕ → Result ℕ Fault
known_capacity None name = fault code.NoCapacity 0 name
known_capacity (Some n) name = Ok n

-- the resources with that of a column; its capacity is the one that is given for it, or else that at
-- its place among those of the resources
abbrev pub resource_by : Column → List Override → List (Option ℕ) → List Resource → List ℕ → Result (List Resource) Fault
resource_by columns.Resource overrides capacities before name =
    known_capacity (or_row (given overrides name) (slice_index_or capacities (length before) None)) name
    >>= λ n. Ok (before ++ record { name = name; capacity = n } ∷ [])
resource_by columns.Duration overrides capacities before name = Ok before
resource_by columns.Id overrides capacities before name = Ok before
resource_by columns.Name overrides capacities before name = Ok before
resource_by columns.Predecessors overrides capacities before name = Ok before
resource_by columns.Note overrides capacities before name = Ok before
resource_by columns.Nothing overrides capacities before name = Ok before

unfoldable pub resource_read : List Override → List (Option ℕ) → List Resource → Head → Result (List Resource) Fault
resource_read overrides capacities before head = resource_by head.column overrides capacities before head.name

-- the resources of columns, behind others
unfoldable pub resources_at : List Override → List (Option ℕ) → List Resource → List Head → Result (List Resource) Fault
resources_at overrides capacities before [] = Ok before
resources_at overrides capacities before (head ∷ heads) = do
  found ← resource_read overrides capacities before head
  resources_at overrides capacities found heads

-- the capacities of their row; none if it hasn't come
abbrev pub or_none : Option (List (Option ℕ)) → List (Option ℕ)
or_none None = []
or_none (Some capacities) = capacities

-- what rows say under columns, with capacities that override those in them
unfoldable pub rows_under : List Override → List Head → List Row → Result Table Fault
rows_under overrides heads rows = do
  entries ← entries_in heads rows
  known ← overrides_checked heads overrides
  resources ← resources_at overrides (or_none entries.capacities) [] heads
  Ok (record { own_ids = is_some (id_place heads); activities = entries.activities; resources = resources })

-- what records say, the first of which is the header, with capacities that override those in them
unfoldable pub table_in : List Override → List Row → Result Table Fault
table_in overrides [] = fault code.NoDuration 0 []
table_in overrides (first ∷ rows) = do
  heads ← header overrides first rows
  rows_under overrides heads rows

-- the line of a byte
abbrev pub line_at : List ℕ → ℕ → ℕ
line_at text n = count_by is_line_feed (take n text) + 1

-- a text is UTF-8
abbrev pub utf8 : List ℕ → Result (Unit {0}) Fault
utf8 text = if is_utf8 text then Ok tt else fault code.NotText (line_at text (utf8_valid_len text)) []

-- records whose quotes are closed
abbrev pub closed : Result (List Row) ℕ → Result (List Row) Fault
closed (Ok rows) = Ok rows
closed (Err line) = fault code.Cells line []

-- the records of a text
unfoldable pub rows_read : List ℕ → Result (List Row) Fault
rows_read text = do
  short ← check (nat_le (length text) longest_text) code.TooLong 0
  good ← utf8 text
  closed (records_of text)

-- what a text says, with capacities that override those in it
abbrev pub table_read_with : List Override → List ℕ → Result Table Fault
table_read_with overrides text = rows_read text >>= λ rows. table_in overrides (filled_from rows)

-- what a text says
abbrev pub table_read : List ℕ → Result Table Fault
table_read text = table_read_with [] text
