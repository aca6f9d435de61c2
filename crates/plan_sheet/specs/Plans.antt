-- The charts of projects and job shops (docs/definitions.md, "Sheets").
use Rattle.std.specs.Prelude.{ℕ, List, []}
use Rattle.plan_sheet.specs.Bars.{greatest_end}
use Rattle.plan_sheet.specs.Chart.{Chart, svg_chart}
use Rattle.plan_sheet.specs.Layouts.{Layout, bars_of, bar_ids, bar_names, lines_of, row_names, shown_bars}
use Rattle.plan_sheet.specs.Names.{SheetNames}

-- the chart of a schedule without a calendar: its axis goes to the greatest end
abbrev pub plain_chart : SheetNames → Layout → List ℕ → Chart
plain_chart names l starts =
    record {
      span = greatest_end (bars_of l starts);
      days = [];
      per_day = 1;
      lines = lines_of l names.ids;
      ids = bar_ids l names.ids;
      rows = row_names l names.lines names.legend;
      names = bar_names l names.lines names.legend;
      bars = shown_bars l names.ids (bars_of l starts);
      slacks = [];
    }

-- the same as an image
abbrev pub layout_svg : List ℕ → SheetNames → Layout → List ℕ → List ℕ
layout_svg title names l starts = svg_chart title (plain_chart names l starts)
