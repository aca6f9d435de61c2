use Rattle.std.proofs.Common.{List, ap, codes, ◌++◌, ◌∙◌}
use Rattle.std.specs.Fmt.{decimal}
use Rattle.plan_errors.specs.Parts.{parts_text}
use Rattle.plan_errors.specs.declared.parts.Part.{Part}
use Rattle.plan_documents.proofs.InfeasibleLemmas.{grouped}
use Rattle.plan_documents.proofs.infeasible.crowded_parts.Goals as goal

pub returns : goal.returns
returns c =
    ap (λ (items : List Part). codes "S10" ++ parts_text items) c.in_ok-from_array.ensures.items
    ∙ rw c.saturating_sub.ensures (grouped (codes "S10 at time ") (decimal c.args.t) (codes " more than one step is on machine ")
    (decimal _))
