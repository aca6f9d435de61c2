use Rattle.std.proofs.Common.{◌≡◌, ◌++◌, take, map}
use Rattle.std.specs.String.{string_bytes}
use Rattle.plan_table.specs.Numbered.{numbered}
use Rattle.plan_table.specs.ShopText.{order_line}
use Rattle.plan_table.proofs.jobshop.push_order_lines.Given as goal

-- behind the text stand the lines of the names so far
abbrev pub invariant-loop-k : goal.invariant-loop-k
invariant-loop-k l = string_bytes l.text ≡ string_bytes l.fn.text ++ numbered order_line 1 (map string_bytes (take l.k l.orders))
