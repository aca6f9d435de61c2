use Rattle.std.proofs.Common.{◌∙◌, ℕ, ap}
use Rattle.plan_shop.specs.Shop.{machine_needs}
use Rattle.plan_kernel.specs.Shops.{needs_of_step}
use Rattle.plan_kernel.proofs.ShopLemmas.{needs_more}
use Rattle.plan_kernel.proofs.shop.rows_of.Goals as goal

pub loop-x-preserved : goal.loop-x-preserved
loop-x-preserved c =
    let s = c.args.shop.now in
    needs_more (needs_of_step s) s.steps c.loop-x.x c.step.result c.loop-x.rows.items c.push.new.self.items c.in_ok-row_of.field-0 c.loop-x.invariant
    c.step.ensures.value (c.in_ok-row_of.ensures ∙ ap (λ (n : ℕ). machine_needs n c.step.result.machine) c.machines.ensures.value) c.in_ok-push.ensures.items
