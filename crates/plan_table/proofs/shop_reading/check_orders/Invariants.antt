use Rattle.std.proofs.Common.{◌≡◌, map, drop}
use Rattle.std.specs.String.{string_bytes}
use Rattle.plan_table.specs.ShopReading.{orders_fit}
use Rattle.plan_table.proofs.shop_reading.check_orders.Given as goal

-- the orders that are left decide
abbrev pub invariant-loop-k : goal.invariant-loop-k
invariant-loop-k l = orders_fit l.most l.steps l.k (map string_bytes (drop l.k l.orders)) ≡ orders_fit l.most l.steps 0 (map string_bytes l.orders)
