use Rattle.std.proofs.Common.{List, ap, codes, ◌++◌, ◌∙◌}
use Rattle.std.specs.Fmt.{decimal}
use Rattle.plan_errors.specs.Parts.{parts_text}
use Rattle.plan_errors.specs.declared.parts.Part.{Part}
use Rattle.plan_report.specs.VerdictText as sentences
use Rattle.plan_documents.proofs.InfeasibleLemmas.{regrouped}
use Rattle.plan_documents.proofs.infeasible.early_parts.Goals as goal

pub returns : goal.returns
returns c =
    ap (λ (items : List Part). codes "S10" ++ parts_text items) c.in_ok-from_array.ensures.items
    ∙ (rw (c.place_number.ensures, c.job_number.ensures) (regrouped (codes "S10 step ")
    (decimal (sentences.place_number c.args.shop.now c.args.step)) (codes " of job ")
    (decimal (sentences.job_number c.args.shop.now c.args.step)) (codes " can start earlier")))
