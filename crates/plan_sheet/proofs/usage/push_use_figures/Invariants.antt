use Rattle.std.proofs.Common.{◌≡◌, ◌++◌, flat_map, map}
use Rattle.std.specs.String.{string_bytes}
use Rattle.std.specs.List.{range_with_len}
use Rattle.plan_table.specs.Names.{name_of}
use Rattle.plan_sheet.specs.Chart.{chart_of}
use Rattle.plan_sheet.specs.Usage.{use_figure}
use Rattle.plan_sheet.proofs.usage.push_use_figures.Given as goal

-- the images so far are written
abbrev pub invariant-loop-k : goal.invariant-loop-k
invariant-loop-k l =
    string_bytes l.text ≡ string_bytes l.fn.text ++ flat_map (use_figure (chart_of l.chart) (map name_of l.resources) l.instance l.starts l.makespan) (range_with_len 0 l.k)
