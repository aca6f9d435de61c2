use Rattle.std.proofs.Common.{◌≡◌, IfOk, string_bytes, [], ◌∷◌, ap, subst, ◌∙◌}
use Rattle.std.specs.Prelude.{codes, decimal}
use Rattle.hex.specs.Hex.{encode_lower}
use Rattle.plan_summary.proofs.LineLemmas.{from_left, turned}
use Rattle.plan_summary.proofs.lines.DeskRecordLine.line.Goals as goal

pub returns : goal.returns
returns c =
    subst (λ t. IfOk c.format.result (λ line. string_bytes line ≡ t))
    (turned (codes "desk ") (c.as_str-desk.result.now ∷ codes " " ∷ c.as_str-digest.result.now ∷ codes " " ∷ decimal c.args.self.now.next ∷ codes "\n" ∷ [])
    ∙ ap (from_left (codes "desk ")) (λ i. c.as_str-desk.ensures.value i ∷ codes " "
    ∷ (c.as_str-digest.ensures.value ∙ c.in_ok-hex.ensures ∙ ap encode_lower c.as_slice.ensures) i
    ∷ codes " " ∷ decimal c.args.self.now.next ∷ codes "\n" ∷ [])) c.format.ensures.ok
