use Rattle.std.proofs.Common.{◌≡◌, ◌++◌}
use Rattle.std.specs.String.{string_bytes}
use Rattle.plan_gantt.specs.Column.{lines_from}
use Rattle.plan_gantt.specs.ShopTable.{shop_line}
use Rattle.plan_gantt.proofs.shops.push_shop_table.Given as goal

-- the lines of the steps so far follow the heading
abbrev pub invariant-loop-x : goal.invariant-loop-x
invariant-loop-x l = string_bytes l.text ≡ string_bytes l.initial.text ++ lines_from (shop_line l.shop l.starts) 0 l.x
