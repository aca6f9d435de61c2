use Rattle.std.proofs.Common.{◌≡◌, map}
use Rattle.plan_shop.specs.Shop.{those_below, step_link}
use Rattle.plan_kernel.specs.Inputs.{link_of}
use Rattle.plan_kernel.specs.Shops.{is_followed}
use Rattle.plan_kernel.proofs.shop.arcs_of.Given as goal

-- the arcs so far
abbrev pub invariant-loop-x : goal.invariant-loop-x
invariant-loop-x l = map link_of l.arcs.items ≡ map step_link (those_below l.x (is_followed l.shop))
