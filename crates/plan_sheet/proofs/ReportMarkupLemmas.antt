-- The markup of a report doesn't depend on names.
use Rattle.std.proofs.Common.{◌≡◌, ℕ, ◌+◌, ◌-◌, ◌*◌, ◌==◌, Bool, true, false, if◌then◌else◌, nat_lt, List, [], ◌∷◌, ◌++◌, Option, Some, length, map, flat_map, codes, min, refl, ap, ap₂, ◌∙◌, cond}
use Rattle.std.specs.List.{range_with_len}
use Rattle.std.specs.Int.{div_ceil}
use Rattle.std.specs.Prelude.{slice_index}
use Rattle.std.specs.Option.{option_map}
use Rattle.jiff_core.specs.declared.civil.date.Date.{Date}
use Rattle.plan_net.specs.Network.{count_of}
use Rattle.plan_sgs.specs.Instances.{Planned}
use Rattle.plan_table.specs.Names.{Name, first_name}
use Rattle.plan_sheet.specs.Axis.{axis_to}
use Rattle.plan_sheet.specs.Bars.{greatest_end}
use Rattle.plan_sheet.specs.Chart.{Chart, renamed, image_head, image_of, line_count, styled_opening, svg_chart}
use Rattle.plan_sheet.specs.Cuts.{cut}
use Rattle.plan_sheet.specs.Escape.{markup_of, escaped}
use Rattle.plan_sheet.specs.Layouts.{Layout, activities, steps, bars_of, bar_ids, bar_names, has_machines, lines_of, machine_names, row_names, shown_bar, shown_bars, shown_line, shows}
use Rattle.plan_sheet.specs.Marks.{marks}
use Rattle.plan_sheet.specs.Moments.{day_count, per_day_of}
use Rattle.plan_sheet.specs.Names.{SheetNames, bare, has_id, has_ids, has_name, is_shown, label, name_text, unnamed}
use Rattle.plan_sheet.specs.Page.{note_of, styles, headings, front, figure, figures, back, page}
use Rattle.plan_sheet.specs.Pieces.{counted}
use Rattle.plan_sheet.specs.Plans.{layout_svg, plain_chart}
use Rattle.plan_sheet.specs.Reports.{Calendared, Margins, layout_chart, layout_table, layout_page, section_of}
use Rattle.plan_sheet.specs.Table.{Table, text_if, last_heads, heads, number_text, first_cells, name_cell, machine_cell, time_cells, last_cells, link_cells, row_front, row_of, rows_of, table_text}
use Rattle.plan_sheet.specs.Usage.{use_area, use_labels, use_image, use_figure, use_figures, use_room, use_section, resource_count}
use Rattle.plan_sheet.specs.Uses.{uses_of}
use Rattle.plan_sheet.specs.declared.bars.Bar.{Bar}
use Rattle.plan_sheet.specs.declared.styles.TheConstants.{HEAD, LEGEND, NOTE_TO, STYLES_TO, TITLE_TO, CAPACITY_LINE, USE_NAME, ROW_NUMBER, ROW_NAME, NAME_CELL}
use Rattle.plan_sheet.specs.declared.styles.TheConstants.{PAGE_TO, TABLE_FROM, TABLE_TITLE, TABLE_TO}
use Rattle.plan_sheet.specs.declared.uses.Use.{Use}
use Rattle.plan_sheet.proofs.MarkupLemmas.{same_append, same_escaped, same_shown, same_if, same_flat_map, same_image, same_image_head}

-- a piece behind texts with the same markup, or before them
behind : (a b tail : List ℕ) → markup_of a ≡ markup_of b → markup_of (a ++ tail) ≡ markup_of (b ++ tail)
behind a b tail same = same_append a tail b tail same refl

before : (head a b : List ℕ) → markup_of a ≡ markup_of b → markup_of (head ++ a) ≡ markup_of (head ++ b)
before head a b same = same_append head a head b refl same

same_headings : (a b note : List ℕ) → markup_of (headings (escaped a) note) ≡ markup_of (headings (escaped b) note)
unfolding headings
same_headings a b note =
    let one = STYLES_TO.now ++ escaped a ++ TITLE_TO.now in
    let two = STYLES_TO.now ++ escaped b ++ TITLE_TO.now in
    behind (one ++ note) (two ++ note) NOTE_TO.now (behind one two note (same_shown STYLES_TO.now TITLE_TO.now a b))

same_front : (a b note : List ℕ) → markup_of (front (escaped a) note) ≡ markup_of (front (escaped b) note)
unfolding front
same_front a b note =
    same_append (HEAD.now ++ escaped a ++ styles) (headings (escaped a) note) (HEAD.now ++ escaped b ++ styles) (headings (escaped b) note)
    (same_shown HEAD.now styles a b) (same_headings a b note)

same_figure : (chart : Chart) (ids rows names : List Name) (count k : ℕ) →
    markup_of (figure chart count k) ≡ markup_of (figure (renamed chart ids rows names) count k)
unfolding figure
same_figure chart ids rows names count k =
    let other = renamed chart ids rows names in
    let title = codes "Gantt chart" in
    let one = image_of [] title chart (40 * k) (min (count - 40 * k) 40) in
    let two = image_of [] title other (40 * k) (min (count - 40 * k) 40) in
    behind (codes "<figure>\n" ++ one) (codes "<figure>\n" ++ two) (codes "</figure>\n")
    (before (codes "<figure>\n") one two (same_image [] title title chart ids rows names (40 * k) (min (count - 40 * k) 40)))

same_figures : (chart : Chart) (ids rows names : List Name) (count : ℕ) →
    markup_of (figures chart count) ≡ markup_of (figures (renamed chart ids rows names) count)
same_figures chart ids rows names count =
    same_flat_map (figure chart count) (figure (renamed chart ids rows names) count) (range_with_len 0 (div_ceil count 40))
    (λ k. same_figure chart ids rows names count k)

same_use_labels : (capacity : ℕ) (a b : List ℕ) → markup_of (use_labels capacity (escaped a)) ≡ markup_of (use_labels capacity (escaped b))
unfolding use_labels
same_use_labels capacity a b = same_shown (counted CAPACITY_LINE.now capacity ++ USE_NAME.now) (codes "</text></svg>\n") a b

same_use_image : (span : ℕ) (days : List Date) (per_day : ℕ) (a b s t : List ℕ) (capacity : ℕ) (uses : List Use) (makespan : ℕ) →
    markup_of (use_image span days per_day (escaped a) (escaped s) capacity uses makespan) ≡ markup_of (use_image span days per_day (escaped b) (escaped t) capacity uses makespan)
unfolding use_image
same_use_image span days per_day a b s t capacity uses makespan =
    let one = image_head 112 [] (escaped a) in
    let two = image_head 112 [] (escaped b) in
    let axis = marks span days 89 in
    let area = use_area span days per_day capacity uses makespan in
    behind (one ++ area ++ axis ++ use_labels capacity (escaped s)) (two ++ area ++ axis ++ use_labels capacity (escaped t)) (codes "</svg>\n")
    (same_append (one ++ area ++ axis) (use_labels capacity (escaped s)) (two ++ area ++ axis) (use_labels capacity (escaped t))
    (behind (one ++ area) (two ++ area) axis (behind one two area (same_image_head 112 [] a b))) (same_use_labels capacity s t))

same_use_figure : (chart : Chart) (ids rows names resources others : List Name) (i : Planned) (starts : List ℕ) (makespan k : ℕ) →
    markup_of (use_figure chart resources i starts makespan k) ≡ markup_of (use_figure (renamed chart ids rows names) others i starts makespan k)
unfolding use_figure
same_use_figure chart ids rows names resources others i starts makespan k =
    let a = label resources (k + 1) in
    let b = label others (k + 1) in
    let capacity = slice_index i.capacities k in
    let uses = uses_of i starts (k + 1) in
    let one = use_image chart.span chart.days chart.per_day (escaped a) (escaped (cut use_room a)) capacity uses makespan in
    let two = use_image chart.span chart.days chart.per_day (escaped b) (escaped (cut use_room b)) capacity uses makespan in
    behind (codes "<figure>\n" ++ one) (codes "<figure>\n" ++ two) (codes "</figure>\n")
    (before (codes "<figure>\n") one two
    (same_use_image chart.span chart.days chart.per_day a b (cut use_room a) (cut use_room b) capacity uses makespan))

same_use_section : (chart : Chart) (ids rows names resources others : List Name) (i : Planned) (starts : List ℕ) (makespan : ℕ) →
    markup_of (use_section chart resources i starts makespan) ≡ markup_of (use_section (renamed chart ids rows names) others i starts makespan)
unfolding use_section
same_use_section chart ids rows names resources others i starts makespan =
    let other = renamed chart ids rows names in
    let one = use_figures chart resources i starts makespan in
    let two = use_figures other others i starts makespan in
    let title = codes "<h2>Resource use</h2>\n" in
    same_if (nat_lt (resource_count i.capacities) 1) [] (if nat_lt 100000 makespan then [] else title ++ one) []
    (if nat_lt 100000 makespan then [] else title ++ two) refl
    (same_if (nat_lt 100000 makespan) [] (title ++ one) [] (title ++ two) refl (before title one two
    (same_flat_map (use_figure chart resources i starts makespan) (use_figure other others i starts makespan)
    (range_with_len 0 (resource_count i.capacities)) (λ k. same_use_figure chart ids rows names resources others i starts makespan k))))

-- a table with other names
abbrev retitled : Table → List Name → List Name → List Name → List Name → List Name → List Name → Table
retitled table ids rows names machines resources predecessors =
    record {
      chart = renamed table.chart ids rows names;
      dated = table.dated;
      weekdays = table.weekdays;
      hours = table.hours;
      listed = table.listed;
      shop = table.shop;
      machines = machines;
      floats = table.floats;
      resources = resources;
      predecessors = predecessors;
    }

same_first_cells : (m n a b : List ℕ) → markup_of (first_cells (escaped m) (escaped a)) ≡ markup_of (first_cells (escaped n) (escaped b))
unfolding first_cells
same_first_cells m n a b =
    let one = ROW_NUMBER.now ++ escaped m ++ ROW_NAME.now in
    let two = ROW_NUMBER.now ++ escaped n ++ ROW_NAME.now in
    same_append (one ++ escaped a) (codes "</td>") (two ++ escaped b) (codes "</td>")
    (same_append one (escaped a) two (escaped b) (same_shown ROW_NUMBER.now ROW_NAME.now m n) (same_escaped a b)) refl

same_name_cell : (a b : List ℕ) → markup_of (name_cell (escaped a)) ≡ markup_of (name_cell (escaped b))
unfolding name_cell
same_name_cell a b = same_shown NAME_CELL.now (codes "</td>") a b

same_row_front : (table : Table) (ids rows names machines resources predecessors : List Name) (bar : Bar) →
    markup_of (row_front table bar) ≡ markup_of (row_front (retitled table ids rows names machines resources predecessors) bar)
unfolding row_front
same_row_front table ids rows names machines resources predecessors bar =
    let m = number_text table.chart.ids bar in
    let n = number_text ids bar in
    let one = name_text table.chart.names bar.number in
    let two = name_text names bar.number in
    same_append (first_cells (escaped m) (escaped one)) (machine_cell table bar) (first_cells (escaped n) (escaped two))
    (machine_cell (retitled table ids rows names machines resources predecessors) bar) (same_first_cells m n one two)
    (same_if table.shop (name_cell (escaped (label table.machines bar.machine))) [] (name_cell (escaped (label machines bar.machine))) []
    (same_name_cell (label table.machines bar.machine) (label machines bar.machine)) refl)

same_link_cells : (table : Table) (ids rows names machines resources predecessors : List Name) (bar : Bar) →
    markup_of (link_cells table bar) ≡ markup_of (link_cells (retitled table ids rows names machines resources predecessors) bar)
unfolding link_cells
same_link_cells table ids rows names machines resources predecessors bar =
    let a = name_text table.resources bar.number in
    let b = name_text resources bar.number in
    let c = name_text table.predecessors bar.number in
    let d = name_text predecessors bar.number in
    same_if table.listed (name_cell (escaped a) ++ name_cell (escaped c)) [] (name_cell (escaped b) ++ name_cell (escaped d)) []
    (same_append (name_cell (escaped a)) (name_cell (escaped c)) (name_cell (escaped b)) (name_cell (escaped d))
    (same_name_cell a b) (same_name_cell c d)) refl

same_row : (table : Table) (ids rows names machines resources predecessors : List Name) (bar : Bar) →
    markup_of (row_of table bar) ≡ markup_of (row_of (retitled table ids rows names machines resources predecessors) bar)
unfolding row_of last_cells
same_row table ids rows names machines resources predecessors bar =
    let other = retitled table ids rows names machines resources predecessors in
    let one = row_front table bar in
    let two = row_front other bar in
    behind (one ++ time_cells bar ++ last_cells table bar ++ link_cells table bar)
    (two ++ time_cells bar ++ last_cells table bar ++ link_cells other bar) (codes "</tr>\n")
    (same_append (one ++ time_cells bar ++ last_cells table bar) (link_cells table bar)
    (two ++ time_cells bar ++ last_cells table bar) (link_cells other bar)
    (behind (one ++ time_cells bar) (two ++ time_cells bar) (last_cells table bar)
    (behind one two (time_cells bar) (same_row_front table ids rows names machines resources predecessors bar)))
    (same_link_cells table ids rows names machines resources predecessors bar))

same_table : (table : Table) (ids rows names machines resources predecessors : List Name) →
    markup_of (table_text table) ≡ markup_of (table_text (retitled table ids rows names machines resources predecessors))
unfolding table_text heads last_heads
same_table table ids rows names machines resources predecessors =
    let other = retitled table ids rows names machines resources predecessors in
    behind (TABLE_FROM.now ++ heads table ++ rows_of table) (TABLE_FROM.now ++ heads table ++ rows_of other) TABLE_TO.now
    (before (TABLE_FROM.now ++ heads table) (rows_of table) (rows_of other)
    (same_flat_map (row_of table) (row_of other) table.chart.bars
    (λ bar. same_row table ids rows names machines resources predecessors bar)))

same_back : (table : Table) (ids rows names machines resources predecessors : List Name) →
    markup_of (back table) ≡ markup_of (back (retitled table ids rows names machines resources predecessors))
unfolding back
same_back table ids rows names machines resources predecessors =
    let one = table_text table in
    let two = table_text (retitled table ids rows names machines resources predecessors) in
    behind (TABLE_TITLE.now ++ one) (TABLE_TITLE.now ++ two) PAGE_TO.now
    (before TABLE_TITLE.now one two (same_table table ids rows names machines resources predecessors))

-- a page has the same markup whatever its title and the names in its table are
same_page : (a b : List ℕ) (lower : Option ℕ) (makespan : ℕ) (table : Table) (ids rows names machines resources predecessors : List Name)
    (section other : List ℕ) → markup_of section ≡ markup_of other →
    markup_of (page a lower makespan table section)
    ≡ markup_of (page b lower makespan (retitled table ids rows names machines resources predecessors) other)
unfolding page
same_page a b lower makespan table ids rows names machines resources predecessors section other same =
    let note = note_of lower table.chart.days table.chart.per_day makespan in
    let key = text_if (length table.chart.slacks) LEGEND.now in
    let count = line_count table.chart in
    let one = figures table.chart count in
    let two = figures (renamed table.chart ids rows names) count in
    same_append (front (escaped a) note ++ key ++ one ++ section) (back table) (front (escaped b) note ++ key ++ two ++ other)
    (back (retitled table ids rows names machines resources predecessors))
    (same_append (front (escaped a) note ++ key ++ one) section (front (escaped b) note ++ key ++ two) other
    (same_append (front (escaped a) note ++ key) one (front (escaped b) note ++ key) two
    (same_append (front (escaped a) note) key (front (escaped b) note) key (same_front a b note) refl)
    (same_figures table.chart ids rows names count)) same)
    (same_back table ids rows names machines resources predecessors)

same_section : (l : Layout) (chart : Chart) (ids rows names legend others : List Name) (starts : List ℕ) (makespan : ℕ) →
    markup_of (section_of l chart legend starts makespan) ≡ markup_of (section_of l (renamed chart ids rows names) others starts makespan)
same_section (activities i) chart ids rows names legend others starts makespan = same_use_section chart ids rows names legend others i starts makespan
same_section (steps s by_job brief) chart ids rows names legend others starts makespan = refl

-- ids without their texts show the same numbers
found_step : (b : Bool) (id : Name) (own other : Option Name) →
    has_name (option_map (λ (x : Name). x.name) own) ≡ has_name (option_map (λ (x : Name). x.name) other) →
    has_name (option_map (λ (x : Name). x.name) (cond b (Some id) own))
    ≡ has_name (option_map (λ (x : Name). x.name) (cond b (Some (unnamed id)) other))
found_step true id own other same = refl
found_step false id own other same = same

found_bare : (n : ℕ) (ids : List Name) → has_id ids n ≡ has_id (map unnamed ids) n
found_bare n [] = refl
found_bare n (id ∷ ids) = found_step (id.number == n) id (first_name n ids) (first_name n (map unnamed ids)) (found_bare n ids)

shown_bare : (ids : List Name) (n : ℕ) → is_shown ids n ≡ is_shown (map unnamed ids) n
shown_bare [] n = refl
shown_bare (id ∷ ids) n = found_bare n (id ∷ ids)

shows_bare : (l : Layout) (ids : List Name) (bar : Bar) → shows l ids bar ≡ shows l (map unnamed ids) bar
shows_bare (activities i) ids bar = shown_bare ids bar.number
shows_bare (steps s by_job brief) ids bar = refl

same_elements : {X Y : Type 0} (f g : X → List Y) → ((x : X) → f x ≡ g x) → (xs : List X) → flat_map f xs ≡ flat_map g xs
same_elements f g each [] = refl
same_elements f g each (x ∷ xs) = ap₂ (λ xs ys. xs ++ ys) (each x) (same_elements f g each xs)

bars_bare : (l : Layout) (ids : List Name) (bars : List Bar) → shown_bars l ids bars ≡ shown_bars l (map unnamed ids) bars
bars_bare l ids bars =
    same_elements (shown_bar l ids) (shown_bar l (map unnamed ids))
    (λ bar. ap (λ (b : Bool). cond b (bar ∷ []) []) (shows_bare l ids bar)) bars

line_bare : (ids : List Name) (first k : ℕ) → shown_line ids first k ≡ shown_line (map unnamed ids) first k
line_bare ids first k = ap (λ (b : Bool). cond b ((first + k) ∷ []) []) (shown_bare ids (first + k))

lines_bare : (l : Layout) (ids : List Name) → lines_of l ids ≡ lines_of l (map unnamed ids)
lines_bare (activities i) ids =
    same_elements (shown_line ids 1) (shown_line (map unnamed ids) 1) (λ k. line_bare ids 1 k) (range_with_len 0 (count_of i.project.network))
lines_bare (steps s by_job brief) ids = refl

has_bare : (ids : List Name) → has_ids ids ≡ has_ids (map unnamed ids)
has_bare [] = refl
has_bare (id ∷ ids) = refl

ids_bare : (l : Layout) (ids : List Name) → has_ids (bar_ids l ids) ≡ has_ids (bar_ids l (map unnamed ids))
ids_bare (activities i) ids = has_bare ids
ids_bare (steps s by_job brief) ids = refl

-- the chart of a schedule with these lines and bars
abbrev chart_with : SheetNames → Layout → List ℕ → Calendared → List ℕ → List ℕ → List Bar → Chart
chart_with names l starts on slacks lines bars =
    record {
      span = axis_to on.days (day_count on.hours (greatest_end (bars_of l starts)));
      days = on.days;
      per_day = per_day_of on.hours;
      lines = lines;
      ids = bar_ids l names.ids;
      rows = row_names l names.lines names.legend;
      names = bar_names l names.lines names.legend;
      bars = bars;
      slacks = slacks;
    }

-- the table of a chart, which is that of a list or not
abbrev table_with : SheetNames → Layout → Calendared → Margins → Bool → Chart → Table
table_with names l on margins listed chart =
    record {
      chart = chart;
      dated = on.dated;
      weekdays = on.weekdays;
      hours = on.hours;
      listed = listed;
      shop = has_machines l;
      machines = machine_names l names.lines;
      floats = margins.floats;
      resources = names.resources;
      predecessors = names.predecessors;
    }

-- the page of a chart with these lines and bars
abbrev page_with : List ℕ → Option ℕ → SheetNames → Layout → List ℕ → Calendared → Margins → Bool → List ℕ → List Bar → List ℕ
page_with title lower names l starts on margins listed lines bars =
    page title lower (greatest_end (bars_of l starts))
    (table_with names l on margins listed (chart_with names l starts on margins.slacks lines bars))
    (section_of l (chart_with names l starts on margins.slacks lines bars) names.legend starts (greatest_end (bars_of l starts)))

-- the report of a schedule has the same markup whatever its title, its names and the texts of its
-- ids and columns are
pub same_layout : (title : List ℕ) (lower : Option ℕ) (names : SheetNames) (l : Layout) (starts : List ℕ) (on : Calendared) (margins : Margins) →
    markup_of (layout_page title lower names l starts on margins)
    ≡ markup_of (layout_page [] lower (bare names) l starts on margins)
unfolding layout_page
same_layout title lower names l starts on margins =
    let makespan = greatest_end (bars_of l starts) in
    let other = bare names in
    let one = layout_chart names l starts on margins.slacks in
    let ids = bar_ids l other.ids in
    let rows = row_names l [] [] in
    let own = bar_names l [] [] in
    let lines = lines_of l names.ids in
    let bars = shown_bars l names.ids (bars_of l starts) in
    let same = same_page title [] lower makespan (layout_table names l on margins one) ids rows own (machine_names l [])
    other.resources other.predecessors (section_of l one names.legend starts makespan)
    (section_of l (renamed one ids rows own) [] starts makespan) (same_section l one ids rows own names.legend [] starts makespan) in
    same
    ∙ ap (λ b. markup_of (page_with [] lower other l starts on margins b lines bars)) (ids_bare l names.ids)
    ∙ ap (λ ns. markup_of (page_with [] lower other l starts on margins (has_ids ids) ns bars)) (lines_bare l names.ids)
    ∙ ap (λ bs. markup_of (page_with [] lower other l starts on margins (has_ids ids) (lines_of l other.ids) bs))
    (bars_bare l names.ids (bars_of l starts))

-- the image of a chart with these lines and bars
abbrev svg_with : SheetNames → Layout → List ℕ → List ℕ → List Bar → List ℕ
svg_with names l starts lines bars =
    svg_chart [] (record {
      span = greatest_end (bars_of l starts);
      days = [];
      per_day = 1;
      lines = lines;
      ids = bar_ids l names.ids;
      rows = row_names l names.lines names.legend;
      names = bar_names l names.lines names.legend;
      bars = bars;
      slacks = [];
    })

-- the chart of a schedule has the same markup whatever its title, its names and the texts of its ids
-- are
pub same_svg : (title : List ℕ) (names : SheetNames) (l : Layout) (starts : List ℕ) →
    markup_of (layout_svg title names l starts) ≡ markup_of (layout_svg [] (bare names) l starts)
same_svg title names l starts =
    let other = bare names in
    let chart = plain_chart names l starts in
    same_image styled_opening title [] chart (bar_ids l other.ids) (row_names l [] []) (bar_names l [] []) 0 (line_count chart)
    ∙ ap (λ ns. markup_of (svg_with other l starts ns (shown_bars l names.ids (bars_of l starts)))) (lines_bare l names.ids)
    ∙ ap (λ bs. markup_of (svg_with other l starts (lines_of l other.ids) bs)) (bars_bare l names.ids (bars_of l starts))
