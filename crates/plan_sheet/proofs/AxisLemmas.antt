-- The marks of an axis.
use Rattle.std.proofs.Common.{ℕ, ◌+◌, ◌*◌, ◌/◌, ◌<◌, ◌≤◌, arith}
use Rattle.std.proofs.Math.Nat.{le-div_iff_mul-le}
use Rattle.std.proofs.lemmas.Nat.{mul-le}

-- a mark is within the span
pub within_span : (span distance k : ℕ) → 1 ≤ distance → k < span / distance + 1 → k * distance ≤ span
within_span span distance k some below = (le-div_iff_mul-le (omega (arith, some))).0 (omega (arith, below))

-- the points of days on an axis
pub fine_product : (days per_day : ℕ) → days ≤ 4294967295 → per_day ≤ 24 → days * per_day ≤ 103079215080
fine_product days per_day small few = mul-le days per_day 4294967295 24 small few
