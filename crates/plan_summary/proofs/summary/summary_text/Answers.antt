use Rattle.std.proofs.Common.{◌≡◌, IfOk, string_bytes, [], ◌∷◌, ap, ap₂, subst, ◌∙◌}
use Rattle.std.specs.Prelude.{codes}
use Rattle.hex.specs.Hex.{encode_lower}
use Rattle.plan_summary.proofs.LineLemmas.{from_left, turned}
use Rattle.plan_summary.proofs.summary.summary_text.Goals as goal

pub returns : goal.returns
returns c =
    subst (λ t. IfOk c.format.result (λ line. string_bytes line ≡ t))
    (turned (c.as_str-counts.result.now) (codes "\nsha256 " ∷ c.as_str-digest.result.now ∷ codes "\n" ∷ [])
    ∙ ap₂ from_left (c.as_str-counts.ensures.value ∙ c.in_ok-counts.ensures)
    (λ i. codes "\nsha256 " ∷ (c.as_str-digest.ensures.value ∙ c.in_ok-hex.ensures
    ∙ ap encode_lower c.as_slice.ensures) i ∷ codes "\n" ∷ [])) c.format.ensures.ok
