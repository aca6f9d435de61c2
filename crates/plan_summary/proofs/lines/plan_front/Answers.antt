use Rattle.std.proofs.Common.{◌≡◌, IfOk, string_bytes, [], ◌∷◌, ap, subst, ◌∙◌}
use Rattle.std.specs.Prelude.{codes, decimal}
use Rattle.plan_summary.proofs.LineLemmas.{from_left, turned}
use Rattle.plan_summary.proofs.lines.plan_front.Goals as goal

pub returns : goal.returns
returns c =
    subst (λ t. IfOk c.format.result (λ line. string_bytes line ≡ t))
    (turned (codes "plan ") (c.as_str-desk.result.now ∷ codes " " ∷ decimal c.args.key.now.n ∷ codes " " ∷ c.word-kind.result.now ∷ [])
    ∙ ap (from_left (codes "plan ")) (λ i. c.as_str-desk.ensures.value i ∷ codes " " ∷ decimal c.args.key.now.n ∷ codes " " ∷ c.word-kind.ensures i ∷ [])) c.format.ensures.ok
