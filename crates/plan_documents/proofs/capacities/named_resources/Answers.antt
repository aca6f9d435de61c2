use Rattle.std.proofs.Common.{◌≡◌, ◌++◌, ◌∙◌, ℕ, List, String, ap, codes, map}
use Rattle.std.specs.Prelude.{string_bytes}
use Rattle.std.specs.Global.{Global}
use Rattle.std.proofs.lemmas.Result.{IfOk-weaker}
use Rattle.plan_documents.specs.Capacities.{named_text}
use Rattle.plan_documents.proofs.CapacityLemmas.{names_text}
use Rattle.plan_documents.proofs.capacities.named_resources.Goals as goal

pub returns-in_ok-list-in-len2-up : goal.returns-in_ok-list-in-len2-up
returns-in_ok-list-in-len2-up c =
    let listed = c.as_str-in-len2-up.ensures.value ∙ c.in_ok-list-in-len2-up.ensures.ok in
    IfOk-weaker c.named-in-len2-up.result
    (λ (text : String Global). string_bytes text ≡ codes "the resources are " ++ c.as_str-in-len2-up.result.now)
    (λ (text : String Global). string_bytes text ≡ named_text (map string_bytes c.args.names.now))
    (λ text is.
    names_text c.args.names.now (string_bytes text) c.in-len2-up.len_at_least
    (is ∙ ap (λ (list : List ℕ). codes "the resources are " ++ list) listed))
    c.named-in-len2-up.ensures
