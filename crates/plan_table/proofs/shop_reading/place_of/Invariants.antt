use Rattle.std.proofs.Common.{◌≡◌, map, drop}
use Rattle.std.specs.String.{string_bytes}
use Rattle.plan_table.specs.ShopReading.{place_from, place_of}
use Rattle.plan_table.proofs.shop_reading.place_of.Given as goal

-- the place is that among the names that are left
abbrev pub invariant-loop-k : goal.invariant-loop-k
invariant-loop-k l = place_from l.k (map string_bytes (drop l.k l.names)) l.text ≡ place_of (map string_bytes l.names) l.text
