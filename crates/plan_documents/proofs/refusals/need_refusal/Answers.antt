use Rattle.std.proofs.Common.{◌≡◌}
use Rattle.plan_gantt.specs.ScheduleFaultText.{need_text}
use Rattle.plan_errors.specs.declared.codes.Code.TheVariants as code
use Rattle.plan_errors.specs.declared.context.About.TheVariants as about
use Rattle.plan_errors.proofs.RefusalLemmas.{refused_with}
use Rattle.plan_documents.proofs.refusals.need_refusal.Goals as goal

pub returns-clause-told : goal.returns-clause-told
returns-clause-told c =
    refused_with (λ line. line ≡ need_text c.args.activity c.args.resource) code.NeedsTooMuch about.Plan c.need_parts.result
    c.refuse.result c.need_parts.ensures c.refuse.ensures.made c.refuse.ensures.memory
