use Rattle.std.proofs.Common.{◌++◌, [], ◌∷◌, ap, ◌∙◌}
use Rattle.plan_prove.proofs.StateLemmas.{root_waits}
use Rattle.plan_prove.proofs.refutation.first_states.Goals as goal

pub returns : goal.returns
returns c =
    root_waits c.args.graph.now c.push.new.self.items c.in_ok-root.field-0
    (c.in_ok-push.ensures.items ∙ ap (λ states. states ++ c.in_ok-root.field-0 ∷ [])
    c.new-waiting.ensures.items) c.in_ok-root.ensures
