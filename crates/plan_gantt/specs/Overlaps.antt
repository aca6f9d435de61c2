-- The test whether an interval contains an instant of a cell, by a comparison of bounds. No public
-- contract uses this.
use Rattle.std.specs.Prelude.{ℕ, ◌+◌, Bool, ◌&&◌, nat_lt}
use Rattle.plan_gantt.specs.declared.interval.Interval.{Interval}

-- the d instants from s on and the `count` instants from `from` on have one in common: neither set
-- is empty, and each begins before the other ends
abbrev pub have_common : ℕ → ℕ → ℕ → ℕ → Bool
have_common s d from count = nat_lt 0 count && (nat_lt 0 d && (nat_lt s (from + count) && nat_lt from (s + d)))

-- the interval contains one of the `count` instants from `from` on
abbrev pub overlaps : Interval → ℕ → ℕ → Bool
overlaps v from count = have_common v.start v.duration from count
