-- The rows of charts, and the texts of charts.
use Rattle.std.proofs.Common.{◌≡◌, ℕ, zero, suc, ◌+◌, ◌-◌, List, [], ◌∷◌, ◌++◌, map, codes, nat_eq, slice_index, refl, sym, ap, ◌∙◌, arith}
use Rattle.std.specs.List.{flat_map, range_with_len}
use Rattle.std.proofs.lemmas.List.{append_assoc, append-nil}
use Rattle.plan_net.specs.Network.{duration_of}
use Rattle.plan_sgs.specs.Instances.{Planned}
use Rattle.plan_shop.specs.Shop.{JobShop, count_steps, machine_of, those_below, time_of}
use Rattle.plan_gantt.specs.Chart.{chart_cells, chart_line, chart_unit, cell_texts, unit_line}
use Rattle.plan_gantt.specs.Charts.{activity_intervals}
use Rattle.plan_gantt.specs.Column.{lines_from, number_column}
use Rattle.plan_gantt.specs.ShopCharts.{machine_intervals, step_interval}
use Rattle.plan_formats.specs.Columns.{Column}
use Rattle.plan_formats.specs.NamedTables.{name_column, with_name}
use Rattle.plan_formats.specs.TableText.{label_place, row_line, row_of, rows_text}
use Rattle.plan_views.specs.Bars.{ChartRow, intervals_of}
use Rattle.plan_views.specs.Charts.{activity_row, bar_at, cells_row, chart_text_of, chart_view_of, line_columns, machine_row, named_text_of}
use Rattle.plan_views.specs.Plans.{Plan, project, shop, count_of}
use Rattle.plan_views.specs.declared.chart.Owner.{Owner}
use Rattle.plan_views.specs.declared.chart.Owner.TheVariants as owner
use Rattle.plan_views.proofs.TextLemmas.{at_index, lines_by_index}

abbrev named_columns : Owner → List Column
named_columns o = line_columns o ++ name_column ∷ []

abbrev named_row : Owner → ℕ → ℕ → ChartRow → List ℕ
named_row o place makespan row = row_line place (row_of (named_columns o) (with_name [] (cells_row makespan row)))

glue : (a b : List ℕ) → (a ++ ((codes " |" ++ b ++ codes "|") ++ [])) ++ [] ++ codes "\n" ≡ a ++ codes " |" ++ b ++ codes "|\n"
glue a b =
    ap (λ bytes. bytes ++ codes "\n") (append-nil (a ++ ((codes " |" ++ b ++ codes "|") ++ [])))
    ∙ ap (λ bytes. a ++ bytes ++ codes "\n") (append-nil (codes " |" ++ b ++ codes "|"))
    ∙ ap (λ bytes. bytes ++ codes "\n") (sym (append_assoc a (codes " |" ++ b) (codes "|")))
    ∙ ap (λ bytes. bytes ++ codes "|" ++ codes "\n") (sym (append_assoc a (codes " |") b))
    ∙ append_assoc (a ++ codes " |" ++ b) (codes "|") (codes "\n")

-- the line of a row without a name
plain_row : (o : Owner) (place makespan : ℕ) (row : ChartRow) → named_row o place makespan row ≡ chart_line makespan row.number (intervals_of row.bars)
unfolding chart_line number_column
plain_row owner.Activity place makespan row = glue (number_column 4 row.number) (cell_texts (chart_unit makespan) (intervals_of row.bars) (chart_cells makespan))
plain_row owner.Machine place makespan row = glue (number_column 4 row.number) (cell_texts (chart_unit makespan) (intervals_of row.bars) (chart_cells makespan))

rows_are_lines : (o : Owner) (place makespan : ℕ) (row : ℕ → ChartRow) (line : ℕ → List ℕ) → ((k : ℕ) → named_row o place makespan (row k) ≡ line k) → (first count : ℕ)
    → flat_map (row_line place) (map (row_of (named_columns o)) (map (with_name []) (map (cells_row makespan) (map row (range_with_len first count)))))
    ≡ lines_from line first count
rows_are_lines o place makespan row line each first zero = refl
rows_are_lines o place makespan row line each first (suc count) =
    ap (λ bytes. bytes ++ flat_map (row_line place) (map (row_of (named_columns o)) (map (with_name []) (map (cells_row makespan) (map row (range_with_len (first + 1) count)))))) (each first)
    ∙ ap (λ bytes. line first ++ bytes) (rows_are_lines o place makespan row line each (first + 1) count)

body : (o : Owner) (makespan : ℕ) (row : ℕ → ChartRow) (line : ℕ → List ℕ) → ((place k : ℕ) → named_row o place makespan (row k) ≡ line k) → (first count : ℕ)
    → named_text_of [] (record { makespan = makespan; owner = o; rows = map row (range_with_len first count) }) ≡ unit_line makespan ++ lines_from line first count
body owner.Activity makespan row line each first count =
    let rows = map (row_of (named_columns owner.Activity)) (map (with_name []) (map (cells_row makespan) (map row (range_with_len first count)))) in
    ap (λ bytes. unit_line makespan ++ bytes) (append-nil (rows_text rows) ∙ rows_are_lines owner.Activity (label_place rows) makespan row line (each (label_place rows)) first count)
body owner.Machine makespan row line each first count =
    let rows = map (row_of (named_columns owner.Machine)) (map (with_name []) (map (cells_row makespan) (map row (range_with_len first count)))) in
    ap (λ bytes. unit_line makespan ++ bytes) (append-nil (rows_text rows) ∙ rows_are_lines owner.Machine (label_place rows) makespan row line (each (label_place rows)) first count)

later : (start d : ℕ) → start + d - start ≡ d
later start d = omega arith

-- the line of an activity has its number and its interval
activity_line : (i : Planned) (starts : List ℕ) (place makespan k : ℕ)
    → named_row owner.Activity place makespan (activity_row i starts k) ≡ chart_line makespan (k + 1) (activity_intervals i.project.network starts (k + 1))
activity_line i starts place makespan k =
    plain_row owner.Activity place makespan (activity_row i starts k)
    ∙ ap (λ d. chart_line makespan (k + 1) (record { start = slice_index starts k; duration = d } ∷ [])) (later (slice_index starts k) (duration_of i.project.network (k + 1)))
    ∙ ap (λ t. chart_line makespan (k + 1) (record { start = t; duration = duration_of i.project.network (k + 1) } ∷ [])) (at_index starts k)

step_intervals : (s : JobShop) (starts : List ℕ) (xs : List ℕ) → intervals_of (map (bar_at (shop s) starts) xs) ≡ map (step_interval s starts) xs
step_intervals s starts [] = refl
step_intervals s starts (x ∷ xs) =
    ap (λ d. record { start = slice_index starts x; duration = d } ∷ intervals_of (map (bar_at (shop s) starts) xs)) (later (slice_index starts x) (time_of s x))
    ∙ ap (λ vs. step_interval s starts x ∷ vs) (step_intervals s starts xs)

machine_line : (s : JobShop) (starts : List ℕ) (place makespan m : ℕ)
    → named_row owner.Machine place makespan (machine_row s starts m) ≡ chart_line makespan m (machine_intervals s starts m)
unfolding machine_intervals
machine_line s starts place makespan m =
    plain_row owner.Machine place makespan (machine_row s starts m)
    ∙ ap (λ vs. chart_line makespan m vs) (step_intervals s starts (those_below (count_steps s) (λ x. nat_eq (machine_of s x) m)))

-- the chart of a schedule
pub chart_text_is : (p : Plan) (starts : List ℕ) (ends : ℕ) → named_text_of [] (chart_view_of p starts ends) ≡ chart_text_of p starts ends
chart_text_is (project i) starts ends =
    body owner.Activity ends (activity_row i starts) (λ k. chart_line ends (k + 1) (activity_intervals i.project.network starts (k + 1))) (λ place k. activity_line i starts place ends k) 0 (count_of (project i))
    ∙ ap (λ bytes. unit_line ends ++ bytes) (lines_by_index (λ n. chart_line ends n (activity_intervals i.project.network starts n)) (count_of (project i)))
chart_text_is (shop s) starts ends =
    body owner.Machine ends (machine_row s starts) (λ m. chart_line ends m (machine_intervals s starts m)) (λ place m. machine_line s starts place ends m) 0 s.machines
