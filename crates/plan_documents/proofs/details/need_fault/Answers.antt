use Rattle.plan_sgs.specs.Instances.{planned}
use Rattle.plan_documents.proofs.DetailLemmas.{need_named}
use Rattle.plan_documents.proofs.details.need_fault.Goals as goal

pub returns-in-Ok-clause-detail : goal.returns-in-Ok-clause-detail
returns-in-Ok-clause-detail c =
    need_named c.args.file.now (planned c.args.project.now c.args.capacities.now) c.args.activity c.args.resource _ _ c.with_detail.result
    c.with_detail.ensures c.requires c.in-Ok.ensures
