-- The columns of a list whose cells can be dates. A column `remaining` isn't one: it tells how long
-- something lasts.
use Rattle.std.specs.Prelude.{ℕ, ◌+◌, if◌then◌else◌, List, [], ◌∷◌, ◌++◌, Option, Some, None, codes}
use Rattle.plan_table.specs.Csv.{Row}
use Rattle.plan_table.specs.Header.{Head}
use Rattle.plan_table.specs.Overrides.{Override}
use Rattle.plan_table.specs.Settlement.{Body, ids_place}
use Rattle.plan_weeklist.specs.Columns.{is_dated}
use Rattle.plan_weekdates.specs.declared.columns.DateColumn.{DateColumn}
use Rattle.plan_weekdates.specs.declared.columns.DateColumn.TheVariants as columns

-- column k, if it is one of dates: its header is one of five words, and it has no capacity
abbrev pub column_at : Body → ℕ → Head → Option DateColumn
column_at body k head =
    if is_dated body (codes "earliest") k head then Some columns.Earliest
    else if is_dated body (codes "fixed") k head then Some columns.Fixed
    else if is_dated body (codes "begun") k head then Some columns.Begun
    else if is_dated body (codes "done") k head then Some columns.Done
    else if is_dated body (codes "due") k head then Some columns.Due
    else None

-- the columns from column k on, behind others
unfoldable pub columns_at : Body → List (Option DateColumn) → ℕ → List Head
    → List (Option DateColumn)
columns_at body before k [] = before
columns_at body before k (head ∷ heads) =
    columns_at body (before ++ column_at body k head ∷ []) (k + 1) heads

-- the columns of rows under a header, with given capacities
abbrev pub columns_of : List Override → List Row → List Head → List (Option DateColumn)
columns_of overrides rows heads =
    columns_at (record { overrides = overrides; rows = rows; place = ids_place overrides heads })
    [] 0 heads
