use Rattle.plan_errors.specs.declared.codes.Code.TheVariants as code
use Rattle.plan_errors.specs.declared.context.About.TheVariants as subject
use Rattle.plan_errors.proofs.RefusalLemmas.{refused_with}
use Rattle.plan_documents.specs.Capacities.{SaysUnknown}
use Rattle.plan_documents.proofs.capacities.plain_unknown.Goals as goal

pub returns-clause-told : goal.returns-clause-told
returns-clause-told c =
    refused_with (SaysUnknown c.args.name.now) code.NoResource subject.Capacity c.name_parts.result c.refuse.result
    c.name_parts.ensures c.refuse.ensures.made c.refuse.ensures.memory
