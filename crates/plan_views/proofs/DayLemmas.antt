-- The rows of tables of working days, and their texts.
use Rattle.std.proofs.Common.{◌≡◌, ℕ, zero, suc, ◌+◌, ◌-◌, ◌<◌, ◌⊎◌, List, [], ◌∷◌, ◌++◌, map, codes, slice_index, Vec, refl, sym, ap, ◌∙◌, subst, arith}
use Rattle.std.proofs.lemmas.List.{append_assoc, append-nil, map-append}
use Rattle.std.specs.Global.{Global}
use Rattle.std.specs.List.{flat_map}
use Rattle.plan_net.specs.Network.{duration_of}
use Rattle.plan_sgs.specs.Instances.{Planned}
use Rattle.plan_shop.specs.Shop.{JobShop}
use Rattle.plan_calendar.specs.WorkingDay.{Workdays, IsBeyond}
use Rattle.plan_gantt.specs.CalendarTable.{IsDayText, IsDaysText, IsDaysLine, AreDaysLines, ShowsBeyond, activity_days_heading}
use Rattle.plan_gantt.specs.CalendarTable as texts
use Rattle.plan_gantt.proofs.DayTextLemmas.{shown_beyond}
use Rattle.plan_gantt.specs.Charts.{activity_interval}
use Rattle.plan_gantt.specs.Column.{column, number_column}
use Rattle.plan_gantt.specs.ShopCharts.{step_days_heading, step_front, step_interval}
use Rattle.plan_gantt.specs.declared.interval.Interval.{Interval}
use Rattle.plan_formats.specs.Cells.{Cell, text, empty}
use Rattle.plan_formats.specs.Cells as cells
use Rattle.plan_formats.specs.Columns.{Column}
use Rattle.plan_formats.specs.TableText.{row_line, row_of, heading_row, label_place, text_of}
use Rattle.plan_formats.specs.Tables.{Table, cells_of, rows_of}
use Rattle.plan_formats.specs.declared.cell.Cell as declared
use Rattle.plan_views.specs.DayTables.{HasDayBeyond, HasRowBeyond, IsDayCell, AreDayCells, IsDaysRow, AreDaysRows, IsDaysTable, IsDaysView, days_columns}
use Rattle.plan_views.specs.Plans.{Plan, project, shop, count_of, front_of, interval_of}

-- two cells with P were appended
abbrev pub Appended : (Cell → Cell → Type 0) → List Cell → List Cell → Type 0
Appended P old new = (first last : Cell) × P first last × (new ≡ old ++ first ∷ last ∷ [])

-- the cells of the days of an interval that isn't empty
pub both_days : (calendar : Workdays) (start duration : ℕ) (first last : Cell) → 0 < duration
    → IsDayCell calendar start first → IsDayCell calendar (start + (duration - 1)) last → AreDayCells calendar start duration first last
both_days calendar start zero first last some a b = absurd (omega (arith, some))
both_days calendar start (suc n) first last some a b =
    let place : start + (suc n - 1) ≡ start + n = omega arith in
    (a, subst (λ t. IsDayCell calendar t last) place b)

-- one of the days of an interval that isn't empty is beyond
pub some_beyond : (calendar : Workdays) (start duration : ℕ) → 0 < duration → IsBeyond calendar start ⊎ IsBeyond calendar (start + (duration - 1)) → ShowsBeyond calendar start duration
some_beyond calendar start duration some beyond = shown_beyond calendar start duration some beyond

-- the rows so far with the next one
pub next_days_row : (calendar : Workdays) (front : ℕ → List Cell) (interval : ℕ → Interval) (k : ℕ) (old new : List (Vec declared.Cell Global)) (v : Vec declared.Cell Global)
    → AreDaysRows calendar front interval k (rows_of old) → IsDaysRow calendar (front k) (interval k) (cells_of v.items)
    → new ≡ old ++ v ∷ [] → AreDaysRows calendar front interval (k + 1) (rows_of new)
next_days_row calendar front interval k old new v so_far is step =
    let place : k + 1 ≡ suc k = omega arith in
    let made : rows_of new ≡ rows_of old ++ cells_of v.items ∷ [] =
    ap rows_of step ∙ map-append (λ (r : Vec declared.Cell Global). cells_of r.items) old (v ∷ []) in
    let more : AreDaysRows calendar front interval (suc k) (rows_of new) = (rows_of old, cells_of v.items, so_far, is, made) in
    subst (λ j. AreDaysRows calendar front interval j (rows_of new)) (sym place) more

day_text : (calendar : Workdays) (t : ℕ) (cell : Cell) → IsDayCell calendar t cell → IsDayText calendar t (column 12 (cells.text_of cell))
day_text calendar t cell (date, day, is) = (date, day, ap (λ c. column 12 (cells.text_of c)) is)

-- the texts of the cells of days
days_text : (calendar : Workdays) (start n : ℕ) (first last : Cell) → AreDayCells calendar start n first last
    → IsDaysText calendar start n (column 12 (cells.text_of first) ++ column 12 (cells.text_of last))
days_text calendar start zero first last (no_first, no_last) =
    ap (λ c. column 12 (cells.text_of c) ++ column 12 (cells.text_of last)) no_first
    ∙ ap (λ c. column 12 (codes "-") ++ column 12 (cells.text_of c)) no_last
days_text calendar start (suc n) first last (a, b) =
    (column 12 (cells.text_of first), column 12 (cells.text_of last), day_text calendar start first a, day_text calendar (start + n) last b, refl)

-- rows with this front have this front in the text
abbrev pub FrontsAre : List Column → List Cell → List ℕ → Type 0
FrontsAre columns front begin =
    (place : ℕ) (first last : Cell) → row_line place (row_of columns (front ++ first ∷ last ∷ []))
    ≡ begin ++ (column 12 (cells.text_of first) ++ column 12 (cells.text_of last)) ++ codes "\n"

days_line : (calendar : Workdays) (columns : List Column) (front : List Cell) (begin : List ℕ) (interval : Interval) (place : ℕ) (row : List Cell)
    → FrontsAre columns front begin → IsDaysRow calendar front interval row → IsDaysLine calendar begin interval (row_line place (row_of columns row))
days_line calendar columns front begin interval place row fronts (first, last, are, is) = (
  column 12 (cells.text_of first) ++ column 12 (cells.text_of last),
  days_text calendar interval.start interval.duration first last are,
  ap (λ cs. row_line place (row_of columns cs)) is ∙ fronts place first last,
)

lines_append : (columns : List Column) (place : ℕ) (before : List (List Cell)) (row : List Cell)
    → flat_map (row_line place) (map (row_of columns) (before ++ row ∷ [])) ≡ flat_map (row_line place) (map (row_of columns) before) ++ row_line place (row_of columns row)
lines_append columns place [] row = append-nil (row_line place (row_of columns row))
lines_append columns place (r ∷ before) row =
    ap (λ bytes. row_line place (row_of columns r) ++ bytes) (lines_append columns place before row)
    ∙ sym (append_assoc (row_line place (row_of columns r)) (flat_map (row_line place) (map (row_of columns) before)) (row_line place (row_of columns row)))

-- rows numbered from 0 are the lines that are numbered from 1
days_lines : (calendar : Workdays) (columns : List Column) (front : ℕ → List Cell) (begin : ℕ → List ℕ) (interval lined : ℕ → Interval) (place n : ℕ) (rows : List (List Cell))
    → ((k : ℕ) → FrontsAre columns (front k) (begin (suc k))) → ((k : ℕ) → interval k ≡ lined (suc k)) → AreDaysRows calendar front interval n rows
    → AreDaysLines calendar begin lined n (flat_map (row_line place) (map (row_of columns) rows))
days_lines calendar columns front begin interval lined place zero rows fronts same none = ap (λ rs. flat_map (row_line place) (map (row_of columns) rs)) none
days_lines calendar columns front begin interval lined place (suc n) rows fronts same (before, row, are, is, made) = (
  flat_map (row_line place) (map (row_of columns) before),
  row_line place (row_of columns row),
  days_lines calendar columns front begin interval lined place n before fronts same are,
  days_line calendar columns (front n) (begin (suc n)) (lined (suc n)) place row (fronts n) (subst (λ (v : Interval). IsDaysRow calendar (front n) v row) (same n) is),
  ap (λ rs. flat_map (row_line place) (map (row_of columns) rs)) made ∙ lines_append columns place before row,
)

activity_front : (i : Planned) (k : ℕ) → FrontsAre (days_columns (project i)) (front_of (project i) k) (number_column 4 (k + 1))
unfolding number_column
activity_front i k place first last = simp (append_assoc, append-nil)

step_fronts : (s : JobShop) (x : ℕ) → FrontsAre (days_columns (shop s)) (front_of (shop s) x) (step_front s x)
unfolding number_column
step_fronts s x place first last = simp (append_assoc, append-nil)

activity_interval-at : (i : Planned) (starts : List ℕ) (k : ℕ) → interval_of (project i) starts k ≡ activity_interval i.project.network starts (suc k)
activity_interval-at i starts k =
    let number : k + 1 ≡ suc k = omega arith in
    let index : k ≡ suc k - 1 = omega arith in
    ap (λ x. record { start = slice_index starts x; duration = duration_of i.project.network (k + 1) }) index
    ∙ ap (λ j. record { start = slice_index starts (suc k - 1); duration = duration_of i.project.network j }) number

step_interval-at : (s : JobShop) (starts : List ℕ) (k : ℕ) → interval_of (shop s) starts k ≡ step_interval s starts (suc k - 1)
step_interval-at s starts k =
    let index : k ≡ suc k - 1 = omega arith in
    ap (step_interval s starts) index

-- the table of working days
pub calendar_text : (calendar : Workdays) (p : Plan) (starts : List ℕ) (table : Table) → IsDaysView calendar p starts table → IsDaysTable calendar p starts (text_of table)
calendar_text calendar (project i) starts table (rows, are, is) =
    let columns = days_columns (project i) in
    let place = label_place (heading_row columns ∷ map (row_of columns) rows) in
    let lines = flat_map (row_line place) (map (row_of columns) rows) in (
      lines,
      days_lines calendar columns (front_of (project i)) (λ j. number_column 4 j) (interval_of (project i) starts) (activity_interval i.project.network starts) place (count_of (project i)) rows
          (λ k.
          let number : k + 1 ≡ suc k = omega arith in
          subst (λ j. FrontsAre columns (front_of (project i) k) (number_column 4 j)) number (activity_front i k))
          (activity_interval-at i starts) are,
      ap text_of is ∙ append-nil (activity_days_heading ++ lines),
    )
calendar_text calendar (shop s) starts table (rows, are, is) =
    let columns = days_columns (shop s) in
    let place = label_place (heading_row columns ∷ map (row_of columns) rows) in
    let lines = flat_map (row_line place) (map (row_of columns) rows) in (
      lines,
      days_lines calendar columns (front_of (shop s)) (λ n. step_front s (n - 1)) (interval_of (shop s) starts) (λ n. step_interval s starts (n - 1)) place (count_of (shop s)) rows
          (λ k.
          let index : k ≡ suc k - 1 = omega arith in
          subst (λ x. FrontsAre columns (front_of (shop s) k) (step_front s x)) index (step_fronts s k))
          (step_interval-at s starts) are,
      ap text_of is ∙ append-nil (step_days_heading ++ lines),
    )

-- a day of a row that would be after the last date
pub days_beyond : (calendar : Workdays) (p : Plan) (starts : List ℕ) → HasRowBeyond calendar p starts → HasDayBeyond calendar p starts
days_beyond calendar (project i) starts (k, below, beyond) = (
  suc k,
  (omega arith, omega (arith, below)),
  subst (λ (v : Interval). texts.HasDayBeyond calendar v) (activity_interval-at i starts k) beyond,
)
days_beyond calendar (shop s) starts beyond = beyond
