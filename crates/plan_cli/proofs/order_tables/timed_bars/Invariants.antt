use Rattle.std.proofs.Common.{◌≡◌, map, filter, take}
use Rattle.plan_views.specs.Bars.{bar_of}
use Rattle.plan_cli.specs.OrderTables.{takes_time}
use Rattle.plan_cli.proofs.order_tables.timed_bars.Given as goal

-- those of the bars so far that take time
abbrev pub invariant-loop-bar : goal.invariant-loop-bar
invariant-loop-bar l = map bar_of l.made.items ≡ filter takes_time (map bar_of (take l.bar-index l.bars))
