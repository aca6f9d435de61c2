use Rattle.std.proofs.Common.{◌≡◌, IfOk, string_bytes, [], ◌∷◌, ap, subst, ◌∙◌}
use Rattle.std.specs.Prelude.{codes, decimal}
use Rattle.plan_summary.proofs.LineLemmas.{from_left, turned}
use Rattle.plan_summary.proofs.lines.CodeRowLine.line.Goals as goal

pub returns : goal.returns
returns c =
    subst (λ t. IfOk c.format.result (λ line. string_bytes line ≡ t))
    (turned (codes "published ") (c.as_str-code.result.now ∷ codes " " ∷ c.word-kind.result.now ∷ codes " " ∷ decimal c.args.self.now.capacity ∷ codes "\n" ∷ [])
    ∙ ap (from_left (codes "published ")) (λ i. c.as_str-code.ensures.value i ∷ codes " " ∷ c.word-kind.ensures i ∷ codes " " ∷ decimal c.args.self.now.capacity ∷ codes "\n" ∷ [])) c.format.ensures.ok
