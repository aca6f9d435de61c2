use Rattle.plan_sgs.specs.Instances.{planned}
use Rattle.plan_documents.specs.Documents.{ids_in}
use Rattle.plan_cli.proofs.SlackLemmas.{no_slack}
use Rattle.plan_cli.proofs.slacks.planned_slacks.Goals as goal

pub returns-clause-refused : goal.returns-clause-refused
returns-clause-refused c =
    no_slack (ids_in c.args.file.now) c.args.listed.now (planned c.args.project.now c.args.capacities.now) _ c.named_slacks.result
    c.in_ok-instance.ensures.ok c.named_slacks.ensures.refused
