use Rattle.std.proofs.Common.{◌≡◌}
use Rattle.plan_report.specs.VerdictText.{sentence_of}
use Rattle.plan_errors.specs.declared.codes.Code.TheVariants as code
use Rattle.plan_errors.specs.declared.context.About.TheVariants as about
use Rattle.plan_errors.proofs.RefusalLemmas.{refused_with}
use Rattle.plan_documents.specs.VerdictText.{infeasible_line}
use Rattle.plan_documents.proofs.infeasible.infeasible_refusal.Goals as goal

pub returns-clause-told : goal.returns-clause-told
returns-clause-told c =
    refused_with (λ line. line ≡ infeasible_line (sentence_of c.args.verdict)) code.Infeasible about.Starts c.verdict_parts.result
    c.refuse.result c.verdict_parts.ensures c.refuse.ensures.made c.refuse.ensures.memory
