-- Groups: rows with deeper rows below them, which stand for these rows and are no activities.
use Rattle.std.specs.Prelude.{ℕ, ◌+◌, ◌==◌, ◌&&◌, ◌||◌, Bool, true, false, if◌then◌else◌, List, [], ◌∷◌, ◌++◌, Option, Some, None, Result, Ok, Err, codes, count_by, is_some, length, map, nat_lt, not}
use Rattle.plan_psplib.specs.Numbers.{number}
use Rattle.plan_table.specs.declared.header.Column.TheVariants as columns
use Rattle.plan_table.specs.Cells.{same_name}
use Rattle.plan_table.specs.Csv.{Row}
use Rattle.plan_table.specs.Header.{Head, heads_at, same_kind}
use Rattle.plan_table.specs.Overrides.{Override}
use Rattle.plan_table.specs.Reading.{Fault}
use Rattle.plan_table.specs.Settlement.{Body, cell_of, has_capacity, ids_place, settled}
use Rattle.plan_spreadsheet.specs.declared.groups.Outline as declared
use Rattle.plan_spreadsheet.specs.Rows.{emptied}

-- headers of columns with levels, and with numbers such as 1.2 (Microsoft Project, GanttProject)
abbrev pub is_level_word : List ℕ → Bool
is_level_word key =
    same_name (codes "outline level") key || same_name (codes "gliederungsebene") key

abbrev pub is_outline_word : List ℕ → Bool
is_outline_word key =
    same_name (codes "outline number") key || same_name (codes "gliederungsnummer") key
    || same_name (codes "wbs") key || same_name (codes "psp-code") key

-- column k tells how deep the rows are: it has a word for that, and no capacity
abbrev pub is_outline : Body → ℕ → Head → Bool
is_outline body k head =
    same_kind columns.Resource head.column && (is_level_word head.key || is_outline_word head.key)
    && not (has_capacity body k head)

-- these columns so far, with column k if it is one
abbrev pub with_outline : Body → List ℕ → ℕ → Head → List ℕ
with_outline body before k head = if is_outline body k head then before ++ k ∷ [] else before

-- the columns from column k on that give the depth of the rows, appended to the earlier ones
unfoldable pub outlines_from : Body → List ℕ → ℕ → List Head → List ℕ
outlines_from body before k [] = before
outlines_from body before k (head ∷ heads) =
    outlines_from body (with_outline body before k head) (k + 1) heads

-- a column that tells how deep the rows are: by levels, or by numbers such as 1.2
pub record Outline : Type 0 where
  pub place : ℕ
  pub levels : Bool

-- the same, as the program keeps it
abbrev pub outline_of : declared.Outline → Outline
outline_of o = record { place = o.place; levels = o.levels }

-- the first of the columns from column k on that tells how deep the rows are
unfoldable pub outline_from : Body → ℕ → List Head → Option Outline
outline_from body k [] = None
outline_from body k (head ∷ heads) =
    if is_outline body k head then Some (record { place = k; levels = is_level_word head.key })
    else outline_from body (k + 1) heads

-- the number of dots in an outline number
abbrev pub parts_of : List ℕ → Option ℕ
parts_of cell = if length cell == 0 then None else Some (count_by (λ byte. byte == 46) cell)

-- the depth of a row by its cell
abbrev pub depth_in : Bool → List ℕ → Option ℕ
depth_in levels cell = if levels then number cell else parts_of cell

abbrev pub depth : Outline → Row → Option ℕ
depth o row = depth_in o.levels (cell_of o.place row)

-- the depth of the next row
abbrev pub next_depth : Outline → List Row → Option ℕ
next_depth o [] = None
next_depth o (row ∷ rows) = depth o row

abbrev pub deeper_than : ℕ → Option ℕ → Bool
deeper_than n None = false
deeper_than n (Some m) = nat_lt n m

-- the second depth is below the first one
abbrev pub is_below : Option ℕ → Option ℕ → Bool
is_below None next = false
is_below (Some n) next = deeper_than n next

-- a row is a group: the row behind it is deeper
abbrev pub is_group : Outline → Row → List Row → Bool
is_group o row rows = is_below (depth o row) (next_depth o rows)

-- the rows that are kept so far, with one more if it is no group
abbrev pub with_row : Outline → List Row → Row → List Row → List Row
with_row o before row rows = if is_group o row rows then before else before ++ row ∷ []

-- the rows without groups, behind others
unfoldable pub ungrouped : Outline → List Row → List Row → List Row
ungrouped o before [] = before
ungrouped o before (row ∷ rows) = ungrouped o (with_row o before row rows) rows

-- the rows without groups, if a column tells which they are
abbrev pub ungrouped_by : Option Outline → List Row → List Row
ungrouped_by None rows = rows
ungrouped_by (Some o) rows = ungrouped o [] rows

-- the rows behind the header without groups. Without a column of ids a row has its number as its
-- id, and no row can be left out
abbrev pub ungrouped_under : Body → List Head → List Row
ungrouped_under body heads =
    if is_some body.place then ungrouped_by (outline_from body 0 heads) body.rows else body.rows

-- a list without groups, and without the columns that tell which they are
abbrev pub under : Body → List Head → Row → List Row
under body heads first =
    map (emptied (outlines_from body [] 0 heads)) (first ∷ ungrouped_under body heads)

abbrev pub body_in : List Override → List Row → List Head → Body
body_in overrides rows heads =
    record { overrides = overrides; rows = rows; place = ids_place overrides heads }

-- a list whose header can't be read stays
abbrev pub under_if : List Override → Row → List Row → Result (List Head) Fault → List Row
under_if overrides first rows (Err fault) = first ∷ rows
under_if overrides first rows (Ok heads) =
    under (body_in overrides rows heads) (settled overrides rows heads) first

abbrev pub without_groups_behind : List Override → Row → List Row → List Row
without_groups_behind overrides first rows =
    under_if overrides first rows (heads_at first.line [] first.cells)

-- a list without its groups; the first row is the header
abbrev pub without_groups : List Override → List Row → List Row
without_groups overrides [] = []
without_groups overrides (first ∷ rows) = without_groups_behind overrides first rows
