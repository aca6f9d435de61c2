use Rattle.std.proofs.Common.{◌≡◌, map, drop}
use Rattle.plan_table.specs.Csv.{row_of}
use Rattle.plan_table.specs.ShopReading.{entries_of, no_shop_entries, shop_rows}
use Rattle.plan_table.proofs.shop_reading.read_shop_rows.Given as goal

-- the rows that are left, behind the entries so far, give all entries
abbrev pub invariant-loop-row : goal.invariant-loop-row
invariant-loop-row l = shop_rows l.count (entries_of l.entries) (map row_of (drop l.row-index l.rows)) ≡ shop_rows l.count no_shop_entries (map row_of l.rows)
