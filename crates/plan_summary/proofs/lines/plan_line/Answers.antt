use Rattle.std.proofs.Common.{◌≡◌, IfOk, string_bytes, [], ◌∷◌, ap, ap₂, subst, ◌∙◌}
use Rattle.std.specs.Prelude.{codes}
use Rattle.hex.specs.Hex.{encode_upper}
use Rattle.plan_summary.proofs.LineLemmas.{from_left, turned}
use Rattle.plan_summary.proofs.lines.plan_line.Goals as goal

pub returns : goal.returns
returns c =
    subst (λ t. IfOk c.format.result (λ line. string_bytes line ≡ t))
    (turned (c.as_str-front.result.now) (codes " " ∷ c.as_str-name.result.now ∷ codes " "
    ∷ c.as_str-body.result.now ∷ codes " " ∷ c.as_str-start.result.now ∷ codes " "
    ∷ c.as_str-days.result.now ∷ codes "\n" ∷ [])
    ∙ ap₂ from_left (c.as_str-front.ensures.value ∙ c.in_ok-front.ensures)
    (λ i. codes " " ∷ (c.as_str-name.ensures.value ∙ c.in_ok-name.ensures
    ∙ ap encode_upper c.as_str.ensures.value) i ∷ codes " "
    ∷ (c.as_str-body.ensures.value ∙ c.in_ok-body.ensures ∙ ap encode_upper c.as_slice.ensures.value) i
    ∷ codes " " ∷ c.as_str-start.ensures.value i ∷ codes " " ∷ c.as_str-days.ensures.value i ∷ codes "\n"
    ∷ [])) c.format.ensures.ok
