-- The texts of tables are the texts that plan_gantt and plan_report define.
use Rattle.std.proofs.Common.{◌≡◌, ℕ, zero, suc, ◌+◌, ◌-◌, ◌==◌, Bool, true, false, List, [], ◌∷◌, ◌++◌, map, codes, slice_index, refl, sym, ap, ◌∙◌, arith}
use Rattle.std.proofs.lemmas.List.{append_assoc, append-nil}
use Rattle.std.specs.List.{flat_map}
use Rattle.plan_net.specs.Network.{Net, duration_of}
use Rattle.plan_net.specs.Network as networks
use Rattle.plan_cpm.specs.Dates.{DateTable, total_float_of}
use Rattle.plan_sgs.specs.Instances.{Planned}
use Rattle.plan_shop.specs.Shop.{JobShop}
use Rattle.plan_gantt.specs.Column.{lines_from, number_column, number_columns, number_row}
use Rattle.plan_gantt.specs.DateTable.{date_heading, date_line, dates_of, line_end, date_table_text}
use Rattle.plan_gantt.specs.ScheduleTable.{makespan_line, schedule_heading, schedule_line, start_of}
use Rattle.plan_gantt.specs.ShopTable.{shop_heading, shop_line}
use Rattle.plan_formats.specs.Cells.{Cell, empty, flag}
use Rattle.plan_formats.specs.Columns.{Column, mark_of}
use Rattle.plan_formats.specs.TableLines.{Line, line_text, lines_text, makespan, duration}
use Rattle.plan_formats.specs.TableText.{text_of, row_line, row_of, rows_text, text_rows, heading_row, label_place}
use Rattle.plan_formats.specs.Tables.{Table}
use Rattle.plan_views.specs.Bounds.{with_line_of}
use Rattle.plan_views.specs.Rows.{rows_from}
use Rattle.plan_views.specs.Plans.{Plan, project, shop, count_of}
use Rattle.plan_views.specs.ScheduleTables.{schedule_columns, schedule_row, schedule_text_of, schedule_view_of}
use Rattle.plan_views.specs.Headings.{line_column}
use Rattle.plan_views.specs.LineLists.{line_row, line_view_of, text_of_lines}
use Rattle.plan_views.specs.DateTables.{date_columns, date_row, date_view_of}

-- if the text of each row is its line, the rows are the lines
rows_are_lines : (columns : List Column) (place : ℕ) (row : ℕ → List Cell) (line : ℕ → List ℕ)
    → ((j : ℕ) → row_line place (row_of columns (row j)) ≡ line j) → (first count : ℕ)
    → flat_map (row_line place) (map (row_of columns) (rows_from row first count)) ≡ lines_from line first count
rows_are_lines columns place row line each first zero = refl
rows_are_lines columns place row line each first (suc count) =
    ap (λ bytes. bytes ++ flat_map (row_line place) (map (row_of columns) (rows_from row (first + 1) count))) (each first)
    ∙ ap (λ bytes. line first ++ bytes) (rows_are_lines columns place row line each (first + 1) count)

-- a table whose columns are in the rows of its text: a heading and its lines
abbrev pub IsPlainly : List Column → List ℕ → (ℕ → List Cell) → (ℕ → List ℕ) → Type 0
IsPlainly columns heading row line =
    (place : ℕ) → (row_line place (heading_row columns) ≡ heading) × ((j : ℕ) → row_line place (row_of columns (row j)) ≡ line j)

pub body_text : (columns : List Column) (heading : List ℕ) (row : ℕ → List Cell) (line : ℕ → List ℕ)
    → IsPlainly columns heading row line → (first count : ℕ)
    → rows_text (heading_row columns ∷ map (row_of columns) (rows_from row first count)) ≡ heading ++ lines_from line first count
body_text columns heading row line plainly first count =
    let rows = heading_row columns ∷ map (row_of columns) (rows_from row first count) in
    let place = label_place rows in
    ap (λ bytes. bytes ++ flat_map (row_line place) (map (row_of columns) (rows_from row first count))) (plainly place).0
    ∙ ap (λ bytes. heading ++ bytes) (rows_are_lines columns place row line (plainly place).1 first count)

-- the text of a table without lines above and with one below
pub one_below : (columns : List Column) (heading : List ℕ) (row : ℕ → List Cell) (line : ℕ → List ℕ)
    → IsPlainly columns heading row line → (first count : ℕ) (last : Line)
    → rows_text (heading_row columns ∷ map (row_of columns) (rows_from row first count)) ++ lines_text (last ∷ [])
    ≡ heading ++ lines_from line first count ++ line_text last
one_below columns heading row line plainly first count last =
    ap (λ bytes. bytes ++ lines_text (last ∷ [])) (body_text columns heading row line plainly first count)
    ∙ ap (λ bytes. heading ++ lines_from line first count ++ bytes) (append-nil (line_text last))

-- the line of a row without a label
plain_line : (place : ℕ) (base : List ℕ) → row_line place (record { base = base; label = empty }) ≡ base ++ codes "\n"
plain_line place base = ap (λ bytes. bytes ++ codes "\n") (append-nil base)

-- numbers in 8 places each, and what stands behind them
abbrev pub nested : List ℕ → List ℕ → List ℕ
nested [] end = end
nested (n ∷ ns) end = number_column 8 n ++ nested ns end

nested_columns : (ns end : List ℕ) → nested ns end ≡ number_columns ns ++ end
nested_columns [] end = refl
nested_columns (n ∷ ns) end =
    ap (λ bytes. number_column 8 n ++ bytes) (nested_columns ns end) ∙ sym (append_assoc (number_column 8 n) (number_columns ns) end)

-- the line of a row of numbers with an end
pub ended_line : (place first : ℕ) (ns end rest : List ℕ) → end ++ codes "\n" ≡ rest
    → row_line place (record { base = number_column 4 first ++ nested ns end; label = empty }) ≡ number_column 4 first ++ number_columns ns ++ rest
ended_line place first ns end rest is =
    plain_line place (number_column 4 first ++ nested ns end)
    ∙ ap (λ bytes. number_column 4 first ++ bytes ++ codes "\n") (nested_columns ns end)
    ∙ ap (λ bytes. bytes ++ codes "\n") (sym (append_assoc (number_column 4 first) (number_columns ns) end))
    ∙ append_assoc (number_column 4 first ++ number_columns ns) end (codes "\n")
    ∙ ap (λ bytes. number_column 4 first ++ number_columns ns ++ bytes) is

-- the start of activity k + 1
pub at_index : (starts : List ℕ) (k : ℕ) → slice_index starts k ≡ start_of starts (k + 1)
at_index starts k =
    let e : k ≡ k + 1 - 1 = omega arith in
    ap (slice_index starts) e

later_lines : (line : ℕ → List ℕ) (first count : ℕ) → lines_from (λ k. line (k + 1)) first count ≡ lines_from line (first + 1) count
later_lines line first zero = refl
later_lines line first (suc count) = ap (λ bytes. line (first + 1) ++ bytes) (later_lines line (first + 1) count)

-- lines of the numbers from 1 on, by indices from 0 on
pub lines_by_index : (line : ℕ → List ℕ) (count : ℕ) → lines_from (λ k. line (k + 1)) 0 count ≡ lines_from line 1 count
lines_by_index line count =
    let e : 0 + 1 ≡ 1 = omega arith in
    later_lines line 0 count ∙ ap (λ first. lines_from line first count) e

project_plainly : (i : Planned) (starts : List ℕ)
    → IsPlainly (schedule_columns (project i)) schedule_heading (schedule_row (project i) starts) (λ k. schedule_line i.project.network starts (k + 1))
unfolding schedule_row schedule_line number_column
project_plainly i starts place = (
  refl,
  λ k. plain_line place _
      ∙ ap (λ (t : ℕ). number_row (k + 1) (duration_of i.project.network (k + 1) ∷ t ∷ (t + duration_of i.project.network (k + 1)) ∷ [])) (at_index starts k),
)

shop_plainly : (s : JobShop) (starts : List ℕ) → IsPlainly (schedule_columns (shop s)) shop_heading (schedule_row (shop s) starts) (shop_line s starts)
unfolding schedule_row shop_line number_column
shop_plainly s starts place = (refl, λ x. plain_line place _)

-- the table of a schedule
pub schedule_text : (p : Plan) (starts : List ℕ) (ends : ℕ) → text_of (schedule_view_of p starts ends) ≡ schedule_text_of p starts ends
schedule_text (project i) starts ends =
    one_below (schedule_columns (project i)) schedule_heading (schedule_row (project i) starts) (λ k. schedule_line i.project.network starts (k + 1)) (project_plainly i starts) 0
    (count_of (project i)) (makespan ends)
    ∙ ap (λ bytes. schedule_heading ++ bytes ++ makespan_line ends) (lines_by_index (schedule_line i.project.network starts) (count_of (project i)))
schedule_text (shop s) starts ends =
    one_below (schedule_columns (shop s)) shop_heading (schedule_row (shop s) starts) (shop_line s starts) (shop_plainly s starts) 0 (count_of (shop s)) (makespan ends)

pub mark_end : (critical : Bool) → mark_of (flag critical) ++ [] ++ codes "\n" ≡ line_end critical
mark_end true = refl
mark_end false = refl

date_plainly : (net : Net) (dates : DateTable) → IsPlainly date_columns date_heading (date_row net dates) (date_line net dates)
unfolding date_row date_line number_column
date_plainly net dates place = (refl, λ j. ended_line place j (dates_of net dates j) (mark_of (flag (total_float_of dates j == 0)) ++ []) _ (mark_end (total_float_of dates j == 0)))

-- the date table
pub date_text : (net : Net) (dates : DateTable) → text_of (date_view_of net dates) ≡ date_table_text net dates
date_text net dates =
    one_below date_columns date_heading (date_row net dates) (date_line net dates) (date_plainly net dates) 1 (networks.count_of net) (duration dates.duration)

line_texts : (word : List ℕ) (place : ℕ) (lines : List (List ℕ))
    → flat_map (row_line place) (map (row_of (line_column word ∷ [])) (map line_row lines)) ≡ text_of_lines lines
line_texts word place [] = refl
line_texts word place (line ∷ lines) =
    ap (λ bytes. bytes ++ flat_map (row_line place) (map (row_of (line_column word ∷ [])) (map line_row lines)))
    (plain_line place (line ++ []) ∙ ap (λ bytes. bytes ++ codes "\n") (append-nil line))
    ∙ ap (λ bytes. line ++ codes "\n" ++ bytes) (line_texts word place lines)

-- a table of whole lines
pub lines_text_of : (word : List ℕ) (lines : List (List ℕ)) → text_of (line_view_of word lines) ≡ text_of_lines lines
lines_text_of word lines =
    append-nil (rows_text (map (row_of (line_column word ∷ [])) (map line_row lines)))
    ∙ line_texts word (label_place (map (row_of (line_column word ∷ [])) (map line_row lines))) lines

-- a table with a line above the others
pub bound_text : (line : Line) (t : Table) → text_of (with_line_of line t) ≡ line_text line ++ text_of t
bound_text line t =
    let rows = rows_text (text_rows t.columns t.rows) in
    ap (λ bytes. bytes ++ lines_text t.below) (append_assoc (line_text line) (lines_text t.above) rows)
    ∙ append_assoc (line_text line) (lines_text t.above ++ rows) (lines_text t.below)
