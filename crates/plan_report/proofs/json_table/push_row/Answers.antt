use Rattle.std.proofs.Common.{codes}
use Rattle.std.specs.String.{string_bytes}
use Rattle.serde_json.specs.View.{view}
use Rattle.plan_report.proofs.JsonLemmas.{row_text_of_names, written_behind}
use Rattle.plan_report.proofs.json_table.push_row.Goals as goal

pub returns : goal.returns
returns c =
    written_behind c.push_str.result (string_bytes c.push_str.new.self) (string_bytes c.push_cells.new.text) (string_bytes c.args.text.now) _ (codes "\n") _
    c.push_str.ensures.bytes c.in_ok-push_cells.ensures (row_text_of_names c.args.columns.now (view c.args.row.now))
