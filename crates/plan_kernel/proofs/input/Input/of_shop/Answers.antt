use Rattle.std.proofs.Common.{◌∙◌, ℕ, replicate, ap}
use Rattle.plan_kernel.proofs.PlanLemmas.{plain_from}
use Rattle.plan_kernel.proofs.ShopLemmas.{same_shop}
use Rattle.plan_kernel.proofs.input.Input.of_shop.Goals as goal

pub returns-clause-problem : goal.returns-clause-problem
returns-clause-problem c =
    plain_from _ _
    (same_shop _ c.args.shop.now c.in_ok-times_of.ensures c.in_ok-arcs_of.ensures c.in_ok-rows_of.ensures
    (c.in_ok-ones.ensures ∙ ap (λ (n : ℕ). replicate n 1) c.machines.ensures.value))
    c.new.ensures.items c.new-2.ensures.items c.new-3.ensures.items
