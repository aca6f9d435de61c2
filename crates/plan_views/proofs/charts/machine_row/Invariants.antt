use Rattle.std.proofs.Common.{◌≡◌, map, nat_eq}
use Rattle.plan_shop.specs.Shop.{machine_of, those_below}
use Rattle.plan_views.specs.Bars.{bar_of}
use Rattle.plan_views.specs.Charts.{bar_at}
use Rattle.plan_views.specs.Plans.{shop}
use Rattle.plan_views.proofs.charts.machine_row.Given as goal

-- the bars of the steps so far that are on the machine
abbrev pub invariant-loop-x : goal.invariant-loop-x
invariant-loop-x l = map bar_of l.bars.items ≡ map (bar_at (shop l.shop) l.starts) (those_below l.x (λ x. nat_eq (machine_of l.shop x) l.machine))
