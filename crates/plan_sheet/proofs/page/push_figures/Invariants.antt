use Rattle.std.proofs.Common.{◌≡◌, ◌++◌, flat_map}
use Rattle.std.specs.String.{string_bytes}
use Rattle.std.specs.List.{range_with_len}
use Rattle.plan_sheet.specs.Chart.{chart_of}
use Rattle.plan_sheet.specs.Page.{figure}
use Rattle.plan_sheet.proofs.page.push_figures.Given as goal

-- the images so far are written
abbrev pub invariant-loop-k : goal.invariant-loop-k
invariant-loop-k l =
    string_bytes l.text ≡ string_bytes l.fn.text ++ flat_map (figure (chart_of l.chart) l.count) (range_with_len 0 l.k)
