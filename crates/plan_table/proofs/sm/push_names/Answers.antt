use Rattle.std.proofs.Common.{map, codes}
use Rattle.std.proofs.lemmas.Result.{on_ok_weaker}
use Rattle.plan_table.specs.Numbered.{numbered}
use Rattle.plan_table.specs.Table.{activity_of, resource_of}
use Rattle.plan_table.specs.ProjectText.{names_text, id_lines, name_line, resource_line, rule_line}
use Rattle.plan_table.proofs.PieceLemmas.{five_pieces}
use Rattle.plan_table.proofs.sm.push_names.Goals as goal

pub returns : goal.returns
unfolding names_text
returns c =
    on_ok_weaker c.push_rule.result
    (λ last. five_pieces _ _ _ _ _ _ (codes "PROJECT INFORMATION:\n") (id_lines c.args.own_ids (map activity_of c.args.activities.now))
    (numbered name_line 2 (map activity_of c.args.activities.now)) (numbered resource_line 1 (map resource_of c.args.resources.now)) rule_line
    c.in_ok-push_str.ensures.bytes c.in_ok-push_id_lines.ensures c.in_ok-push_name_lines.ensures c.in_ok-push_resource_lines.ensures last) c.push_rule.ensures
