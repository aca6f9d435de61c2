use Rattle.std.proofs.Common.{◌≡◌, ◌++◌, take, flat_map}
use Rattle.std.specs.String.{string_bytes}
use Rattle.serde_json.specs.View.{view}
use Rattle.plan_report.specs.JsonTable.{id_row_text}
use Rattle.plan_report.proofs.json_table.push_id_rows.Given as goal

-- the rows so far are written
abbrev pub invariant-loop-row : goal.invariant-loop-row
invariant-loop-row l = string_bytes l.text ≡ string_bytes l.initial.text
    ++ flat_map (λ row. id_row_text (view row)) (take l.row-index l.rows)
