use Rattle.std.proofs.Common.{◌≡◌, IfOk, string_bytes, [], ◌∷◌, ap, subst, ◌∙◌}
use Rattle.std.specs.Prelude.{codes, decimal}
use Rattle.plan_summary.proofs.LineLemmas.{from_left, turned}
use Rattle.plan_summary.proofs.lines.BindRecordLine.line.Goals as goal

pub returns : goal.returns
returns c =
    subst (λ t. IfOk c.format.result (λ line. string_bytes line ≡ t))
    (turned (codes "bind ") (c.as_str-desk.result.now ∷ codes " " ∷ decimal c.args.self.now.n ∷ codes " " ∷ decimal c.args.self.now.place ∷ codes " " ∷ c.as_str-code.result.now ∷ codes "\n" ∷ [])
    ∙ ap (from_left (codes "bind ")) (λ i. c.as_str-desk.ensures.value i ∷ codes " "
    ∷ decimal c.args.self.now.n ∷ codes " " ∷ decimal c.args.self.now.place ∷ codes " "
    ∷ c.as_str-code.ensures.value i ∷ codes "\n" ∷ [])) c.format.ensures.ok
