use Rattle.std.proofs.Common.{ℕ, List, ap, append_assoc, codes, ◌++◌, ◌∙◌}
use Rattle.std.specs.Fmt.{decimal}
use Rattle.plan_errors.specs.Parts.{parts_text}
use Rattle.plan_documents.proofs.RefusalLemmas.{pushed}
use Rattle.plan_documents.proofs.table_faults.twice.Goals as goal

pub returns : goal.returns
returns c =
    ap parts_text c.in_ok-push.ensures.items
    ∙ pushed c.in_ok-parts.parts.items _
    ∙ ap (λ (text : List ℕ). text ++ codes " twice") c.in_ok-parts.ensures
    ∙ ap (λ (tail : List ℕ). codes " line " ++ tail) (append_assoc (decimal c.args.line) (codes " id " ++ c.args.id.now) (codes " twice"))
