-- Tables and charts of a list of orders: without the steps that take no time, and with machines by
-- name (docs/definitions.md, "Runs").
use Rattle.std.specs.Prelude.{◌≡◌, ℕ, ◌==◌, if◌then◌else◌, List, [], ◌∷◌, ◌++◌, Option, Some, None}
use Rattle.std.specs.Prelude.{Bool, nat_lt, map, filter, codes}
use Rattle.plan_orlib.specs.Shop as docs
use Rattle.plan_orlib.specs.Says.{Says}
use Rattle.plan_orlib.specs.declared.steps.Step.{Step}
use Rattle.plan_shop.specs.Docs.{shop_of}
use Rattle.plan_shop.specs.Shop.{JobShop}
use Rattle.plan_table.specs.Names.{Name}
use Rattle.plan_formats.specs.Cells.{Cell}
use Rattle.plan_formats.specs.Columns.{Column}
use Rattle.plan_formats.specs.NamedTables.{with_names}
use Rattle.plan_formats.specs.NameColumns.{name_cell}
use Rattle.plan_formats.specs.Tables.{Table}
use Rattle.plan_views.specs.Bars.{Bar, ChartRow}
use Rattle.plan_views.specs.Charts.{Chart}
use Rattle.plan_views.specs.LinkColumns.{texts_column}
use Rattle.plan_cli.specs.Views.{View, table, listing, chart, text}
use Rattle.plan_documents.specs.declared.documents.Subject.{Subject}
use Rattle.plan_documents.specs.declared.documents.Subject.TheVariants as subject

-- the job shop of an instance in a file
abbrev pub IsShopInFile : List ℕ → List ℕ → JobShop → Type 0
IsShopInFile instance file s = (doc : docs.Shop) × Says instance file doc × (s ≡ shop_of doc)

-- the job shop of a subject, if it is one
abbrev pub IsShopOf : Subject → List ℕ → Option JobShop → Type 0
IsShopOf (subject.Project given) file None = Unit {0}
IsShopOf (subject.Shop instance) file (Some s) = IsShopInFile instance.now file s
IsShopOf _ file _ = ⊥

-- a row with the name of a machine behind it
abbrev pub with_machine : List Name → ℕ → List Cell → List Cell
with_machine names machine row = row ++ name_cell names machine ∷ []

-- the row of a step with its machine; no row if the step takes no time
abbrev pub timed_row : List Name → Step → List Cell → List (List Cell)
timed_row names step row =
    if step.time == 0 then [] else with_machine names step.machine row ∷ []

-- the rows of the steps that take time; each row is that of the step at the same place
unfoldable pub timed_rows : List Name → List Step → List (List Cell) → List (List Cell)
timed_rows names [] rows = []
timed_rows names (step ∷ steps) [] = []
timed_rows names (step ∷ steps) (row ∷ rows) =
    timed_row names step row ++ timed_rows names steps rows

-- the column of the machines
abbrev pub machine_column : List Name → Column
machine_column machines = texts_column (codes "resources") machines

-- a table of steps without those that take no time, with the machines by name
abbrev pub timed_table : JobShop → List Name → Table → Table
timed_table s machines t = record {
  above = t.above;
  columns = t.columns ++ machine_column machines ∷ [];
  rows = timed_rows machines s.steps t.rows;
  below = t.below;
}

-- the same with the names of the orders
abbrev pub order_table : JobShop → List Name → List Name → Table → Table
order_table s orders machines t = timed_table s machines (with_names orders t)

-- the bar of a step that takes time
abbrev pub takes_time : Bar → Bool
takes_time b = nat_lt b.start b.end

-- a row of a chart with the bars of the steps that take time
abbrev pub timed_bars : ChartRow → ChartRow
timed_bars r = record { number = r.number; bars = filter takes_time r.bars }

-- a chart with these rows
abbrev pub timed_chart : Chart → Chart
timed_chart c = record { makespan = c.makespan; owner = c.owner; rows = map timed_bars c.rows }

-- a value of a task, with such a table in the place of a table, and such a chart in the place of a
-- chart; another value stays as it is
abbrev pub order_view : JobShop → List Name → List Name → View → View
order_view s orders machines (table t) = table (order_table s orders machines t)
order_view s orders machines (listing t) = listing t
order_view s orders machines (chart c) = chart (timed_chart c)
order_view s orders machines (text t) = text t

-- the same if there is a job shop
abbrev pub view_for : Option JobShop → List Name → List Name → View → View
view_for None orders machines view = view
view_for (Some s) orders machines view = order_view s orders machines view
