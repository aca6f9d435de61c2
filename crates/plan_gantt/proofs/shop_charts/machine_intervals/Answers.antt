use Rattle.std.proofs.Common.{◌≡◌, arith}
use Rattle.plan_shop.specs.Shop.{count_steps}
use Rattle.plan_gantt.proofs.ShopChartLemmas.{all_intervals}
use Rattle.plan_gantt.proofs.shop_charts.machine_intervals.Goals as goal

pub returns-clause-intervals : goal.returns-clause-intervals
returns-clause-intervals c =
    let whole : c.loop-x.x ≡ count_steps c.args.shop.now = omega arith in
    all_intervals c.args.shop.now c.args.starts.now c.args.machine c.loop-x.x c.loop-x.intervals.items c.loop-x.invariant.intervals whole
