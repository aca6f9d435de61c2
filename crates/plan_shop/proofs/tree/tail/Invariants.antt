-- The times of the steps so far.
use Rattle.std.proofs.Common.{◌≡◌, ◌-◌, ◌*◌, ◌≤◌, suc}
use Rattle.plan_shop.specs.Shop.{times_from}
use Rattle.plan_shop.proofs.tree.tail.Given as goal

abbrev pub invariant-loop-later : goal.invariant-loop-later
invariant-loop-later l = record { is : l.total ≡ times_from l.shop (suc l.i) (l.later - 1); few : l.total ≤ (l.later - 1) * 10000 }
