-- Gantt charts as SVG (docs/definitions.md, "Sheets"): one definition for each element.
use Rattle.std.specs.Prelude.{ℕ, ◌+◌, ◌-◌, ◌*◌, ◌==◌, if◌then◌else◌, nat_lt, List, [], ◌++◌, map, codes}
use Rattle.std.specs.Prelude.{Option, Some, None, length, min, slice_get, unwrap_or}
use Rattle.std.specs.Option.{option_map}
use Rattle.std.specs.List.{flat_map, range_with_len}
use Rattle.std.specs.Fmt.{decimal}
use Rattle.jiff_core.specs.declared.civil.date.Date.{Date}
use Rattle.plan_table.specs.Names.{Name, name_of}
use Rattle.plan_sheet.specs.Axis.{begin_place, end_place}
use Rattle.plan_sheet.specs.Cuts.{cut}
use Rattle.plan_sheet.specs.Escape.{escaped}
use Rattle.plan_sheet.specs.Marks.{marks}
use Rattle.plan_sheet.specs.Names.{id_label}
use Rattle.plan_sheet.specs.Pieces.{counted}
use Rattle.plan_sheet.specs.Place.{extent}
use Rattle.plan_sheet.specs.Titles.{title_of}
use Rattle.plan_sheet.specs.declared.bars.Bar.{Bar}
use Rattle.plan_sheet.specs.declared.chart.Chart as declared
use Rattle.plan_sheet.specs.declared.styles.TheConstants.{BAR_LEFT, BAR_TIP, BAR_WIDTH, CHART_STYLE}
use Rattle.plan_sheet.specs.declared.styles.TheConstants.{COLOURS, IMAGE, NARROW_BAR, TIGHT_CLASS, WIDE_BAR}

-- a chart: the length of its axis, its working days, the time units of a working day, the numbers of
-- its lines, the ids of its bars, the names of its lines and of its bars, the bars, and the slacks of
-- activities, if they are shown
pub record Chart : Type 0 where
  pub span : ℕ
  pub days : List Date
  pub per_day : ℕ
  pub lines : List ℕ
  pub ids : List Name
  pub rows : List Name
  pub names : List Name
  pub bars : List Bar
  pub slacks : List ℕ

-- the same, as the program keeps it
abbrev pub chart_of : declared.Chart → Chart
chart_of c =
    record {
      span = c.span;
      days = c.days.now;
      per_day = c.per_day;
      lines = c.lines.now;
      ids = map name_of c.ids.now;
      rows = map name_of c.rows.now;
      names = map name_of c.names.now;
      bars = c.bars.now;
      slacks = c.slacks.now;
    }

-- the same chart with other ids and names
abbrev pub renamed : Chart → List Name → List Name → List Name → Chart
renamed chart ids rows names =
    record {
      span = chart.span;
      days = chart.days;
      per_day = chart.per_day;
      lines = chart.lines;
      ids = ids;
      rows = rows;
      names = names;
      bars = chart.bars;
      slacks = chart.slacks;
    }

-- where a bar begins and ends on the axis
unfoldable pub left_of : Chart → Bar → ℕ
left_of chart bar = begin_place chart.span chart.days chart.per_day bar.from

unfoldable pub right_of : Chart → Bar → ℕ
right_of chart bar = end_place chart.span chart.days chart.per_day bar.to

-- the description of a bar: its title, its start and its end
unfoldable pub tip_of : List Name → List Name → Bar → List ℕ
tip_of ids names bar = title_of ids names bar ++ codes ", " ++ decimal bar.from ++ codes " to " ++ decimal bar.to

-- a milestone: a diamond around a place, with its description
unfoldable pub diamond : ℕ → List ℕ → List ℕ
diamond x tip =
    codes "<path class=\"bar\" d=\"M" ++ decimal x ++ codes " 3l7 7-7 7-7-7z\"><title>" ++ tip ++ codes "</title></path>\n"

-- the slack of a bar, if it is shown, at most 2^32 - 1
abbrev pub slack_of : Chart → Bar → Option ℕ
slack_of chart bar = option_map (λ n. min n 4294967295) (slice_get chart.slacks (bar.number - 1))

-- the class of a bar without slack
abbrev pub tight_class : Option ℕ → List ℕ
tight_class None = []
tight_class (Some slack) = if slack == 0 then TIGHT_CLASS.now else []

-- a thin line from one place to another
unfoldable pub tail : ℕ → ℕ → List ℕ
tail from to =
    codes "<path class=\"tail\" d=\"M" ++ decimal from ++ codes " 10H" ++ decimal to ++ codes "\"/>\n"

-- the tail of a bar with slack: up to where it could end
abbrev pub tail_of : Chart → Bar → List ℕ
tail_of chart bar =
    if nat_lt (unwrap_or (slack_of chart bar) 0) 1 then []
    else tail (right_of chart bar) (end_place chart.span chart.days chart.per_day
    (min (bar.to + unwrap_or (slack_of chart bar) 0) 4294967295))

-- the class of a rectangle: a narrow one has no stroke
abbrev pub bar_class : ℕ → List ℕ
bar_class width = if nat_lt width 4 then NARROW_BAR.now else WIDE_BAR.now

-- the start of a rectangle from a place on, up to its description
unfoldable pub rectangle_head : List ℕ → ℕ → ℕ → List ℕ
rectangle_head tight x width =
    bar_class width ++ tight ++ counted BAR_LEFT.now x ++ counted BAR_WIDTH.now width ++ BAR_TIP.now

-- an activity that takes time: a rectangle from a place on, with its description
unfoldable pub rectangle : List ℕ → ℕ → ℕ → List ℕ → List ℕ
rectangle tight x width tip = rectangle_head tight x width ++ tip ++ codes "</title></rect>\n"

-- a number inside a bar
unfoldable pub inner_number : ℕ → ℕ → List ℕ
inner_number x n = codes "<text class=\"on\" x=\"" ++ decimal x ++ codes "\" y=\"15\" dx=\"3\">" ++ decimal n ++ codes "</text>\n"

-- the room of a number inside a bar: 10 units for each digit, and 6 beside them
abbrev pub number_room : ℕ → ℕ
number_room n = if nat_lt n 10 then 16 else if nat_lt n 100 then 26 else if nat_lt n 1000 then 36 else 106

-- the number inside a bar, if it is that of a step and has room
abbrev pub number_of : Chart → Bar → List ℕ
number_of chart bar =
    if nat_lt bar.step 1 then []
    else if nat_lt (extent (left_of chart bar) (right_of chart bar)) (number_room bar.inside) then []
    else inner_number (left_of chart bar) bar.inside

-- the diamond of an activity that takes no time; nothing for a step
abbrev pub milestone_of : Chart → Bar → List ℕ
milestone_of chart bar =
    if nat_lt bar.step 1 then diamond (right_of chart bar) (escaped (tip_of chart.ids chart.names bar)) else []

-- the rectangle of a bar that takes time, with its tail and its number
unfoldable pub block_of : Chart → Bar → List ℕ
block_of chart bar =
    rectangle (tight_class (slack_of chart bar)) (left_of chart bar)
    (extent (left_of chart bar) (right_of chart bar)) (escaped (tip_of chart.ids chart.names bar))
    ++ tail_of chart bar ++ number_of chart bar

-- a bar: a diamond where it ends if it takes no time, else a rectangle
unfoldable pub bar_of : Chart → Bar → List ℕ
bar_of chart bar =
    if bar.from == bar.to then milestone_of chart bar else block_of chart bar

-- a bar, if it is in line n
abbrev pub bar_in : Chart → ℕ → Bar → List ℕ
bar_in chart n bar = if bar.line == n then bar_of chart bar else []

-- the bars of line n
abbrev pub bars_of : Chart → ℕ → List ℕ
bars_of chart n = flat_map (bar_in chart n) chart.bars

-- the label of a line at this height, cut before the bars
unfoldable pub line_head : ℕ → List ℕ → List ℕ
line_head y label =
    codes "<g transform=\"translate(0," ++ decimal y
    ++ codes ")\"><svg width=\"322\" height=\"20\"><text x=\"4\" y=\"15\">" ++ label ++ codes "</text></svg>\n"

-- the room of a label beside the axis, in columns of 0.6 em
abbrev pub label_room : ℕ
label_room = 33

-- line n, as the k-th one from above
unfoldable pub line_of : Chart → ℕ → ℕ → List ℕ
line_of chart k n =
    line_head (20 * k + 22) (escaped (cut label_room (id_label chart.ids chart.rows n))) ++ bars_of chart n
    ++ codes "</g>\n"

-- the number of the line at an index; 0 if there is none
abbrev pub number_at : Chart → ℕ → ℕ
number_at chart index = unwrap_or (slice_get chart.lines index) 0

-- `count` lines from the one at index `first` on
abbrev pub lines_of : Chart → ℕ → ℕ → List ℕ
lines_of chart first count =
    flat_map (λ k. line_of chart k (number_at chart (first + k))) (range_with_len 0 count)

-- the number of lines, at most 800,000
abbrev pub line_count : Chart → ℕ
line_count chart = min (length chart.lines) 800000

-- the tag of an image of this height
unfoldable pub image_tag : ℕ → List ℕ
image_tag height = IMAGE.now ++ decimal height ++ codes "\" viewBox=\"0 0 1390 " ++ decimal height ++ codes "\">\n"

-- the start of an image of this height, with an opening and a title
unfoldable pub image_head : ℕ → List ℕ → List ℕ → List ℕ
image_head height opening title = image_tag height ++ opening ++ codes "<title>" ++ title ++ codes "</title>\n"

-- a chart of these lines below its axis, with an opening and a title
unfoldable pub image_of : List ℕ → List ℕ → Chart → ℕ → ℕ → List ℕ
image_of opening title chart first count =
    image_head (20 * count + 26) opening (escaped title) ++ marks chart.span chart.days (20 * count + 5)
    ++ lines_of chart first count ++ codes "</svg>\n"

-- the opening of a chart alone, with its styles
abbrev pub styled_opening : List ℕ
styled_opening = codes "<style>\n" ++ COLOURS.now ++ CHART_STYLE.now ++ codes "</style>\n"

-- a chart alone
abbrev pub svg_chart : List ℕ → Chart → List ℕ
svg_chart title chart = image_of styled_opening title chart 0 (line_count chart)
