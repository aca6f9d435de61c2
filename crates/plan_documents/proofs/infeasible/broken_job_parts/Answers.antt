use Rattle.std.proofs.Common.{List, ap, codes, ◌++◌, ◌∙◌}
use Rattle.std.specs.Fmt.{decimal}
use Rattle.plan_report.specs.VerdictText as sentences
use Rattle.plan_errors.specs.Parts.{parts_text}
use Rattle.plan_errors.specs.declared.parts.Part.{Part}
use Rattle.plan_documents.proofs.InfeasibleLemmas.{all_regrouped}
use Rattle.plan_documents.proofs.infeasible.broken_job_parts.Goals as goal

pub returns : goal.returns
returns c =
    let shop = c.args.shop.now in
    ap (λ (items : List Part). codes "S10" ++ parts_text items) c.in_ok-from_array.ensures.items
    ∙ (rw (c.place_number.ensures, c.job_number.ensures, c.place_number-2.ensures) (all_regrouped (codes "S10 step ")
    (decimal (sentences.place_number shop c.args.step)) (codes " of job ") (decimal (sentences.job_number shop c.args.step))
    (codes " starts before step ") (decimal (sentences.place_number shop c.args.predecessor)) (codes " ends")))
