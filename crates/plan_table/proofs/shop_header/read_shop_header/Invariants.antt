use Rattle.std.proofs.Common.{◌≡◌, map, drop}
use Rattle.plan_table.specs.declared.shop_header.ShopColumn.TheVariants as columns
use Rattle.plan_table.specs.ShopReading.{shop_header}
use Rattle.plan_table.proofs.shop_header.read_shop_header.Given as goal

-- what is left of the header decides
abbrev pub invariant-loop-k : goal.invariant-loop-k
invariant-loop-k l = shop_header l.column (map (λ cell. cell.items) (drop l.k l.cells)) ≡ shop_header columns.Order (map (λ cell. cell.items) l.cells)
