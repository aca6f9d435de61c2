use Rattle.std.proofs.Common.{◌+◌, ◌++◌, get_or, drop, ap, ◌∙◌}
use Rattle.std.specs.Prelude.{unwrap_or}
use Rattle.plan_desk.specs.PlanValues as values
use Rattle.plan_desk.proofs.PlaceLemmas.{capacities_in-step}
use Rattle.plan_desk.proofs.pages.capacities.capacities.Goals as goal

pub loop-k-preserved : goal.loop-k-preserved
loop-k-preserved c =
    let k = c.loop-k.k in
    ap (λ made. made ++ values.capacities_in c.args.places.now (k + 1 + 1) (drop (k + 1) c.args.available.now)) c.in_ok-push.ensures.items
    ∙ capacities_in-step c.args.places.now c.args.available.now k c.unwrap_or.result c.loop-k.caps.items c.loop-k-test.true
    (c.unwrap_or.ensures ∙ ap (λ o. unwrap_or o (get_or c.args.available.now k 0)) c.capacity_at.ensures)
    ∙ c.loop-k.invariant
