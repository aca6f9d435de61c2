use Rattle.std.proofs.Common.{◌≡◌, ◌++◌, length, map}
use Rattle.std.specs.List.{filter_map}
use Rattle.plan_table.specs.Names.{name_of, named}
use Rattle.plan_table.specs.ShopNames.{before_description, instance_names}
use Rattle.plan_table.proofs.shop_names.instance_names.Given as goal

-- the names so far, and behind them those of the lines that are left, are all names
abbrev pub invariant-loop-line : goal.invariant-loop-line
invariant-loop-line l = map name_of l.names.items ++ filter_map (λ line. named l.key line.text) (before_description l.lines) ≡ instance_names l.key l.instance l.text

abbrev pub decreases-loop-line : goal.decreases-loop-line
decreases-loop-line l = length l.lines
