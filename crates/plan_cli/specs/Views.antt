-- The values of tasks, and their texts (docs/definitions.md, "Runs").
use Rattle.std.specs.Prelude.{ℕ, List, [], ◌∷◌, Result, IfOk, map, string_bytes}
use Rattle.plan_table.specs.Names.{Name}
use Rattle.plan_formats.specs.CsvText.{csv_text_of, records_of}
use Rattle.plan_formats.specs.JsonText.{json_text_of}
use Rattle.plan_formats.specs.IdTables.{with_ids}
use Rattle.plan_formats.specs.NamedTables.{with_names}
use Rattle.plan_formats.specs.TableFormats.{format_text}
use Rattle.plan_formats.specs.TableText.{text_of}
use Rattle.plan_formats.specs.Tables.{Table, table_of}
use Rattle.plan_formats.specs.declared.format.Format.{Format}
use Rattle.plan_formats.specs.declared.format.Format.TheVariants as format
use Rattle.plan_views.specs.ChartData.{bars_of, id_chart_data}
use Rattle.plan_views.specs.Charts.{Chart, chart_of, id_text_of, named_text_of}
use Rattle.plan_views.specs.LineLists.{name_view_of, verdict_view_of}
use Rattle.plan_views.specs.LinkColumns.{Links, with_links}
use Rattle.plan_errors.specs.declared.fault.CliFault.{CliFault}
use Rattle.plan_cli.specs.OwnTables.{own_rows_of, with_rows}
use Rattle.plan_cli.specs.declared.views.View as declared
use Rattle.plan_cli.specs.declared.views.View.TheVariants as kept

-- a table, a table whose rows have no numbers, a chart, or a text that has no other format
pub data View : Type 0 where
  table : Table → View
  listing : Table → View
  chart : Chart → View
  text : List ℕ → View

-- the value of a task, as the program represents it
abbrev pub view_of : declared.View → View
view_of (kept.Table t) = table (table_of t)
view_of (kept.Own t rows) = table (with_rows (table_of t) (own_rows_of rows.items))
view_of (kept.Listed t rows) = listing (with_rows (table_of t) (own_rows_of rows.items))
view_of (kept.Chart c) = chart (chart_of c)
view_of (kept.Verdict sentence) = table (verdict_view_of (string_bytes sentence))
view_of (kept.Names names) = table (name_view_of (map (λ name. name.items) names.items))
view_of (kept.Text t) = text t.items

-- a successful call returns such a value
abbrev pub IfView : Result declared.View CliFault → (View → Type 0) → Type 0
IfView result IsValue = IfOk result (λ view. IsValue (view_of view))

-- the text without names
abbrev pub plain_text : View → List ℕ
plain_text (table t) = text_of t
plain_text (listing t) = text_of t
plain_text (chart c) = named_text_of [] c
plain_text (text t) = t

-- a table with the names of its rows, if there are names
abbrev pub with_any_names : List Name → Table → Table
with_any_names [] t = t
with_any_names (name ∷ names) t = with_names (name ∷ names) t

-- a table with the resources and the predecessors of its activities, if they are given
abbrev pub with_any_links : List Links → Table → Table
with_any_links [] t = t
with_any_links (first ∷ links) t = with_links (first ∷ links) t

-- the same with the names of its rows, and with the ids of activities in the place of their numbers
abbrev pub named_table : List Name → List Name → List Links → Table → Table
named_table ids names links t = with_ids ids (with_any_links links (with_names names t))

-- the text, each row with its name, activities with their ids, and with their resources and
-- predecessors if these are given
abbrev pub named_text : List Name → List Name → List Links → View → List ℕ
named_text ids names links (table t) = text_of (named_table ids names links t)
named_text ids names links (listing t) = text_of t
named_text ids names links (chart c) = id_text_of ids names c
named_text ids names links (text t) = t

-- a table with the names of its rows if there are names, and with the rest as before
abbrev pub full_table : List Name → List Name → List Links → Table → Table
full_table ids names links t = with_ids ids (with_any_links links (with_any_names names t))

-- the bars of a chart as CSV
abbrev pub bars_text : List Name → List Name → Chart → List ℕ
bars_text ids names c = csv_text_of (records_of (full_table ids names [] (bars_of c)))

-- a chart in a format: CSV has its bars, JSON its value
abbrev pub chart_text : Format → List Name → List Name → Chart → List ℕ
chart_text format.Csv ids names c = bars_text ids names c
chart_text format.Json ids names c = json_text_of (id_chart_data ids names c)

-- the text in a format, with the names of the rows, the ids of activities, and their resources and
-- predecessors if these are given
abbrev pub text_in : Format → List Name → List Name → List Links → View → List ℕ
text_in format ids names links (table t) = format_text format (full_table ids names links t)
text_in format ids names links (listing t) = format_text format t
text_in format ids names links (chart c) = chart_text format ids names c
text_in format ids names links (text t) = t
