-- The values of charts have no float and are nested a few levels deep.
use Rattle.std.proofs.Common.{ℕ, Bool, true, false, if◌then◌else◌, List, [], ◌∷◌, ◌++◌, Option, Some, None, map, codes, refl, arith}
use Rattle.std.specs.List.{flat_map}
use Rattle.serde_json.specs.Data.{Data, Members, no_members, put}
use Rattle.plan_gantt.specs.Chart.{chart_unit}
use Rattle.plan_table.specs.Names.{Name}
use Rattle.plan_formats.specs.Cells.{value_of}
use Rattle.plan_formats.specs.JsonData.{number_data, with_number}
use Rattle.plan_formats.specs.NameColumns.{name_cell}
use Rattle.plan_formats.proofs.JsonLemmas.{Fits, AllFit, MembersFit, array_fits, cell_fits, object_fits, put_fits}
use Rattle.plan_views.specs.Bars.{Bar, ChartRow}
use Rattle.plan_views.specs.Charts.{Chart, word_of}
use Rattle.plan_views.specs.ChartData.{bar_data, bars_data, has_row, id_chart_data, row_data, row_ids, row_objects, rows_data, with_step, with_text}
use Rattle.plan_views.specs.declared.chart.Owner.{Owner}

number_fits : (m : ℕ) (k : List ℕ) (n : ℕ) (ms : Members) → MembersFit m ms → MembersFit m (with_number k n ms)
number_fits m k n ms fit = put_fits m k (number_data n) ms (refl, omega arith) fit

step_fits : (step : Option (ℕ × ℕ)) (ms : Members) → MembersFit 0 ms → MembersFit 0 (with_step step ms)
step_fits None ms fit = fit
step_fits (Some x) ms fit = number_fits 0 (codes "step") x.1 (with_number (codes "job") x.0 ms) (number_fits 0 (codes "job") x.0 ms fit)

bar_fits : (b : Bar) → Fits 1 (bar_data b)
bar_fits b =
    let start = with_number (codes "start") b.start no_members in
    let end = with_number (codes "end") b.end start in
    object_fits 0 (with_step b.step end) (step_fits b.step end (number_fits 0 (codes "end") b.end start (number_fits 0 (codes "start") b.start no_members tt)))

bars_fit : (bars : List Bar) → AllFit 1 (map bar_data bars)
bars_fit [] = tt
bars_fit (b ∷ bars) = (bar_fits b, bars_fit bars)

text_fits : (word : List ℕ) (texts : List Name) (n : ℕ) (ms : Members) → MembersFit 2 ms → MembersFit 2 (with_text word texts n ms)
text_fits word [] n ms fit = fit
text_fits word (text ∷ texts) n ms fit = put_fits 2 word (value_of (name_cell (text ∷ texts) n)) ms (cell_fits 2 (name_cell (text ∷ texts) n)) fit

row_fits : (o : Owner) (ids names : List Name) (r : ChartRow) → Fits 3 (row_data o ids names r)
row_fits o ids names r =
    let number = with_number (word_of o) r.number no_members in
    let bars = put (codes "bars") (bars_data r.bars) number in
    let named = with_text (codes "name") names r.number bars in
    object_fits 2 (with_text (codes "id") ids r.number named)
    (text_fits (codes "id") ids r.number named
    (text_fits (codes "name") names r.number bars (put_fits 2 (codes "bars") (bars_data r.bars) number (array_fits 1 (map bar_data r.bars) (bars_fit r.bars)) (number_fits 2 (word_of o) r.number no_members tt))))

one_fits : (has : Bool) (d : Data) (ds : List Data) → Fits 3 d → AllFit 3 ds → AllFit 3 ((if has then d ∷ [] else []) ++ ds)
one_fits true d ds fit rest = (fit, rest)
one_fits false d ds fit rest = rest

rows_fit : (o : Owner) (ids names : List Name) (rows : List ChartRow) → AllFit 3 (flat_map (row_objects o ids names) rows)
rows_fit o ids names [] = tt
rows_fit o ids names (r ∷ rows) =
    one_fits (has_row ids r.number) (row_data o ids names r) (flat_map (row_objects o ids names) rows) (row_fits o ids names r) (rows_fit o ids names rows)

-- the value of a chart
pub chart_fits : (ids names : List Name) (c : Chart) → Fits 5 (id_chart_data ids names c)
chart_fits ids names c =
    let length = with_number (codes "makespan") c.makespan no_members in
    let unit = with_number (codes "unit") (chart_unit c.makespan) length in
    let shown = row_ids c.owner ids in
    object_fits 4 (put (codes "rows") (rows_data c.owner shown names c.rows) unit)
    (put_fits 4 (codes "rows") (rows_data c.owner shown names c.rows) unit (array_fits 3 (flat_map (row_objects c.owner shown names) c.rows) (rows_fit c.owner shown names c.rows))
    (number_fits 4 (codes "unit") (chart_unit c.makespan) length (number_fits 4 (codes "makespan") c.makespan no_members tt)))
