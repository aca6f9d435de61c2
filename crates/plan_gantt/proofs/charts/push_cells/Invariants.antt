use Rattle.std.proofs.Common.{◌≡◌, ◌++◌}
use Rattle.std.specs.String.{string_bytes}
use Rattle.plan_gantt.specs.Chart as spec
use Rattle.plan_gantt.proofs.charts.push_cells.Given as goal

-- the cells so far follow the text
abbrev pub invariant-loop-cell : goal.invariant-loop-cell
invariant-loop-cell l = string_bytes l.text ≡ string_bytes l.fn.text ++ spec.cell_texts l.unit l.intervals l.cell
