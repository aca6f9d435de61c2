-- The kinds of the columns of a list. An unknown header doesn't decide the kind alone: the cells of
-- the column and the given capacities do.
use Rattle.std.specs.Prelude.{◌≡◌, ℕ, ◌+◌, ◌==◌, ◌&&◌, ◌||◌, Bool, true, false, if◌then◌else◌, List, [], ◌∷◌, ◌++◌, Option, Some, None, Result, Ok, length, map, drop, not, is_some}
use Rattle.std.specs.List.{list_any}
use Rattle.plan_psplib.specs.Lines.{trim}
use Rattle.plan_table.specs.declared.fault.TableCode.TheVariants as code
use Rattle.plan_table.specs.declared.header.Column.{Column}
use Rattle.plan_table.specs.declared.header.Column.TheVariants as columns
use Rattle.plan_table.specs.declared.settlement.Body as declared
use Rattle.plan_table.specs.Csv.{Row, row_of}
use Rattle.plan_table.specs.Reading.{Fault, fault, ◌>>=◌}
use Rattle.plan_table.specs.Header.{Head, same_kind, has_kind, heads_at, heads_checked}
use Rattle.plan_table.specs.Rows.{first_cell}
use Rattle.plan_table.specs.Entries.{id_of, id_place, is_capacity}
use Rattle.plan_table.specs.Overrides.{Override, given, is_resource_column, or_row, override_of}
use Rattle.plan_table.specs.Synonyms.{is_note_word, is_successor_word, synonym_kind}

-- what settles columns: the given capacities, the rows behind the header, and where the ids are
pub record Body : Type 0 where
  pub overrides : List Override
  pub rows : List Row
  pub place : Option ℕ

-- the same, as the program keeps it
abbrev pub body_of : declared.Body → Body
body_of b = record { overrides = map override_of b.overrides.now; rows = map row_of b.rows.now; place = b.place }

-- ---- the cells of a column

-- the cell of column k in a row, without the blanks at its ends
abbrev pub cell_of : ℕ → Row → List ℕ
cell_of k row = trim (first_cell (drop k row.cells))

-- a row is that of the capacities
abbrev pub is_capacities : Option ℕ → Row → Bool
is_capacities place row = is_capacity place (id_of place 0 row.cells)

-- a row is that of the capacities, and has one for column k
abbrev pub gives_capacity : Option ℕ → ℕ → Row → Bool
gives_capacity place k row = not (length (cell_of k row) == 0) && is_capacities place row

-- the ids are in column k
abbrev pub is_place : Option ℕ → ℕ → Bool
is_place None k = false
is_place (Some place) k = place == k

-- a capacity is given for a column
abbrev pub is_given : List Override → Head → Bool
is_given overrides head = is_some (given overrides head.name)

-- column k has a capacity: one is given for it, or is in the row of the capacities
abbrev pub has_capacity : Body → ℕ → Head → Bool
has_capacity body k head =
    is_given body.overrides head || (not (is_place body.place k) && list_any (gives_capacity body.place k) body.rows)

-- ---- the column of the ids

abbrev pub is_id_kind : Option Column → Bool
is_id_kind None = false
is_id_kind (Some kind) = same_kind columns.Id kind

-- a column's header is a synonym for `id`, and no capacity is given for it
abbrev pub can_have_ids : List Override → Head → Bool
can_have_ids overrides head = is_id_kind (synonym_kind head.key) && not (is_given overrides head)

-- the first column that can have the ids, if the first one that is left has the number k
abbrev pub ids_from : List Override → ℕ → List Head → Option ℕ
ids_from overrides k [] = None
ids_from overrides k (head ∷ heads) = if can_have_ids overrides head then Some k else ids_from overrides (k + 1) heads

-- where the ids are: in the column `id`, or else in the first one that can have them
abbrev pub ids_place : List Override → List Head → Option ℕ
ids_place overrides heads = or_row (id_place heads) (ids_from overrides 0 heads)

-- ---- what a column is

-- a column without a capacity is ignored if its header is a word for a note
abbrev pub note_or_resource : List ℕ → Column
note_or_resource key = if is_note_word key then columns.Note else columns.Resource

-- no other column is of a kind: none before it, as it is settled, and none behind it by its header
abbrev pub is_new : Column → List Head → List Head → Bool
is_new kind before behind = not (has_kind kind before || has_kind kind behind)

-- a column without a capacity is what its header is a synonym for, if no other column is that
abbrev pub open_column : Option Column → List Head → List Head → List ℕ → Column
open_column None before behind key = note_or_resource key
open_column (Some kind) before behind key = if is_new kind before behind then kind else note_or_resource key

-- what column k is if its header isn't a known one: with a capacity it is a resource
unfoldable pub other_column : Body → List Head → ℕ → Head → List Head → Column
other_column body before k head behind =
    if has_capacity body k head then columns.Resource
    else open_column (synonym_kind head.key) before behind head.key

-- a known header alone says what its column is
abbrev pub settled_by : Column → Column → Column
settled_by columns.Resource other = other
settled_by columns.Duration other = columns.Duration
settled_by columns.Id other = columns.Id
settled_by columns.Name other = columns.Name
settled_by columns.Predecessors other = columns.Predecessors
settled_by columns.Note other = columns.Note
settled_by columns.Nothing other = columns.Nothing

-- column k between others
abbrev pub settled_head : Body → List Head → ℕ → Head → List Head → Head
settled_head body before k head behind =
    record { column = settled_by head.column (other_column body before k head behind); key = head.key; name = head.name }

-- the columns from column k on, behind others
unfoldable pub settled_at : Body → List Head → ℕ → List Head → List Head
settled_at body before k [] = before
settled_at body before k (head ∷ heads) = settled_at body (before ++ settled_head body before k head heads ∷ []) (k + 1) heads

-- the columns of rows, with given capacities
abbrev pub settled : List Override → List Row → List Head → List Head
settled overrides rows heads = settled_at (record { overrides = overrides; rows = rows; place = ids_place overrides heads }) [] 0 heads

-- ---- successors

-- column k is one of successors: its header isn't a known one but a word for them, and it has no
-- capacity
abbrev pub gives_successors : Body → ℕ → Head → Bool
gives_successors body k head = is_resource_column head.column && (is_successor_word head.key && not (has_capacity body k head))

-- no column from column k on is one of successors
unfoldable pub successors_from : Body → ℕ → List Head → Result (Unit {0}) Fault
successors_from body k [] = Ok tt
successors_from body k (head ∷ heads) = if gives_successors body k head then fault code.Successors 0 head.name else successors_from body (k + 1) heads

abbrev pub successors_checked : List Override → List Row → List Head → Result (Unit {0}) Fault
successors_checked overrides rows heads = successors_from (record { overrides = overrides; rows = rows; place = ids_place overrides heads }) 0 heads

-- ---- the header

-- the settled columns of a list, whose header is the first of its rows
unfoldable pub header : List Override → Row → List Row → Result (List Head) Fault
header overrides first rows = do
  heads ← heads_at first.line [] first.cells
  sound ← heads_checked first.line (settled overrides rows heads)
  none ← successors_checked overrides rows heads
  Ok (settled overrides rows heads)

-- ---- the law of lists in which each unknown header has a capacity

-- each column from column k on whose header isn't a known one has a capacity
abbrev pub AreLimited : Body → ℕ → List Head → Type 0
AreLimited body k [] = Unit {0}
AreLimited body k (head ∷ heads) = (head.column ≡ columns.Resource → has_capacity body k head ≡ true) × AreLimited body (k + 1) heads

-- then all columns are what their headers say
unfoldable pub LimitedColumnsStay : Type 0
LimitedColumnsStay = (overrides : List Override) (rows : List Row) (heads : List Head) →
    AreLimited (record { overrides = overrides; rows = rows; place = ids_place overrides heads }) 0 heads → settled overrides rows heads ≡ heads
