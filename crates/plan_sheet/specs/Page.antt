-- The page of a report (docs/definitions.md, "Sheets"): its parts one after another.
use Rattle.std.specs.Prelude.{ℕ, ◌-◌, ◌*◌, ◌/◌, if◌then◌else◌, nat_lt, List, [], ◌++◌, Option, Some, None, length, min, codes}
use Rattle.std.specs.List.{flat_map, range_with_len}
use Rattle.std.specs.Int.{div_ceil}
use Rattle.std.specs.Fmt.{decimal}
use Rattle.jiff_core.specs.declared.civil.date.Date.{Date}
use Rattle.plan_sheet.specs.Axis.{units_of}
use Rattle.plan_sheet.specs.Chart.{Chart, image_of, line_count}
use Rattle.plan_sheet.specs.Days.{day_text}
use Rattle.plan_sheet.specs.Escape.{escaped}
use Rattle.plan_sheet.specs.Table.{Table, table_text, text_if}
use Rattle.plan_sheet.specs.declared.styles.TheConstants.{CHART_STYLE, COLOURS, HEAD, LEGEND, NOTE_TO, PAGE_STYLE, PAGE_TO, STYLES_FROM, STYLES_TO, TABLE_TITLE, TITLE_TO}

-- the first and the last day of a plan; nothing without a calendar
unfoldable pub dates_part : List Date → ℕ → ℕ → List ℕ
dates_part days per_day makespan =
    if nat_lt (length days) 1 then []
    else codes ", " ++ day_text days 0 ++ codes " to " ++ day_text days ((makespan - 1) / units_of per_day)

-- what a search has found out about the makespan: it is the least, or else a lower bound of the
-- least one; nothing without a search
unfoldable pub bound_part : Option ℕ → ℕ → List ℕ
bound_part None makespan = []
bound_part (Some lower) makespan =
    if nat_lt lower makespan then codes ", between " ++ decimal lower ++ codes " " ++ decimal makespan
    else codes ", optimal " ++ decimal makespan

-- the note below the title: the makespan, the first and the last day, and what a search has found
-- out
unfoldable pub note_of : Option ℕ → List Date → ℕ → ℕ → List ℕ
note_of lower days per_day makespan =
    codes "Makespan " ++ decimal makespan ++ dates_part days per_day makespan ++ bound_part lower makespan

-- the styles of a page
unfoldable pub styles : List ℕ
styles = STYLES_FROM.now ++ COLOURS.now ++ CHART_STYLE.now ++ PAGE_STYLE.now

-- the title and the note
unfoldable pub headings : List ℕ → List ℕ → List ℕ
headings title note = STYLES_TO.now ++ title ++ TITLE_TO.now ++ note ++ NOTE_TO.now

-- the head of a page, its title and its note
unfoldable pub front : List ℕ → List ℕ → List ℕ
front title note = HEAD.now ++ title ++ styles ++ headings title note

-- image k of a chart of `count` lines: its lines from index 40 k on, at most 40
unfoldable pub figure : Chart → ℕ → ℕ → List ℕ
figure chart count k =
    codes "<figure>\n" ++ image_of [] (codes "Gantt chart") chart (40 * k) (min (count - 40 * k) 40) ++ codes "</figure>\n"

-- the images of all lines, 40 lines in each
abbrev pub figures : Chart → ℕ → List ℕ
figures chart count = flat_map (figure chart count) (range_with_len 0 (div_ceil count 40))

-- the table below its heading, and the end of a page
unfoldable pub back : Table → List ℕ
back table = TABLE_TITLE.now ++ table_text table ++ PAGE_TO.now

-- a page: its title, perhaps a lower bound of the least makespan, the chart of a table, a section
-- on resources, and the table
unfoldable pub page : List ℕ → Option ℕ → ℕ → Table → List ℕ → List ℕ
page title lower makespan table section =
    front (escaped title) (note_of lower table.chart.days table.chart.per_day makespan)
    ++ text_if (length table.chart.slacks) LEGEND.now ++ figures table.chart (line_count table.chart)
    ++ section
    ++ back table
