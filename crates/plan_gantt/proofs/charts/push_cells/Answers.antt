use Rattle.std.specs.String.{string_bytes}
use Rattle.plan_gantt.specs.Chart.{cell_text}
use Rattle.plan_gantt.proofs.CellLemmas.{next_cell}
use Rattle.plan_gantt.proofs.charts.push_cells.Goals as goal

pub loop-cell-preserved : goal.loop-cell-preserved
loop-cell-preserved c = next_cell (string_bytes c.args.text.now)
    (cell_text c.chart_unit-unit.result c.args.intervals.now) c.loop-cell.cell _ _ _ c.loop-cell.invariant
    c.cell_text.ensures c.in_ok-push_str.ensures.bytes
