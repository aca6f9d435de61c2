use Rattle.std.proofs.Common.{◌≡◌, ◌++◌, take, flat_map}
use Rattle.std.specs.String.{string_bytes}
use Rattle.serde_json.specs.View.{view}
use Rattle.plan_report.specs.JsonTable.{cell_text, number_at}
use Rattle.plan_report.proofs.json_table.push_cells.Given as goal

-- the cells so far are written
abbrev pub invariant-loop-column : goal.invariant-loop-column
invariant-loop-column l = string_bytes l.text ≡ string_bytes l.initial.text
    ++ flat_map (λ column. cell_text (number_at (view l.row) column.now)) (take l.column-index l.columns)
