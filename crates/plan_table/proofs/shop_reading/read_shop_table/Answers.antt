use Rattle.std.proofs.Common.{map}
use Rattle.plan_table.specs.Csv.{row_of}
use Rattle.plan_table.specs.ShopReading.{entries_of, table_of}
use Rattle.plan_table.proofs.ShopLimitLemmas.{shop_good}
use Rattle.plan_table.proofs.shop_reading.read_shop_table.Goals as goal

pub invariant_of-result : goal.invariant_of-result
invariant_of-result c = shop_good (map row_of c.filled_from.result.now) (table_of (entries_of c.in_ok-entries.entries)) c.in_ok-entries.ensures
