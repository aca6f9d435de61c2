use Rattle.std.proofs.Common.{List, ap, codes, ◌++◌, ◌∙◌}
use Rattle.std.specs.Fmt.{decimal}
use Rattle.plan_errors.specs.Parts.{parts_text}
use Rattle.plan_errors.specs.declared.parts.Part.{Part}
use Rattle.plan_documents.proofs.InfeasibleLemmas.{regrouped}
use Rattle.plan_documents.proofs.infeasible.over_parts.Goals as goal

pub returns : goal.returns
returns c =
    ap (λ (items : List Part). codes "S10" ++ parts_text items) c.in_ok-from_array.ensures.items
    ∙ regrouped (codes "S10 at time ") (decimal c.args.t) (codes " more of resource ") (decimal c.args.resource)
    (codes " is needed than there is")
