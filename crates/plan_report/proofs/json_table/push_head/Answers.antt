use Rattle.std.proofs.Common.{codes}
use Rattle.std.specs.String.{string_bytes}
use Rattle.plan_report.proofs.JsonLemmas.{head_text_of_names, written_behind}
use Rattle.plan_report.proofs.json_table.push_head.Goals as goal

pub returns : goal.returns
returns c =
    written_behind c.push_str.result (string_bytes c.push_str.new.self) (string_bytes c.push_names.new.text) (string_bytes c.args.text.now) _ (codes "\n") _
    c.push_str.ensures.bytes c.in_ok-push_names.ensures (head_text_of_names c.args.columns.now)
