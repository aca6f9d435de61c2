use Rattle.std.proofs.Common.{◌≡◌, ◌++◌}
use Rattle.std.specs.String.{string_bytes}
use Rattle.plan_sheet.specs.Chart.{chart_of, lines_of}
use Rattle.plan_sheet.proofs.chart.push_lines.Given as goal

-- the lines so far are written
abbrev pub invariant-loop-k : goal.invariant-loop-k
invariant-loop-k l = string_bytes l.text ≡ string_bytes l.fn.text ++ lines_of (chart_of l.chart) l.first l.k
