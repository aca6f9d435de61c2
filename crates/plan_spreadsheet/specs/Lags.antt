-- Lags: the time between the end of a predecessor and the start of an activity.
use Rattle.std.specs.Prelude.{ℕ, ◌&&◌, Bool, false, List, Option, Some, None, drop, nat_le, take}
use Rattle.plan_psplib.specs.Numbers.{number}
use Rattle.plan_table.specs.Durations.{digits_end, is_unit}

-- the most units of a lag, that of a duration
abbrev pub longest_lag : ℕ
longest_lag = 10000

abbrev pub is_short : Option ℕ → Bool
is_short None = false
is_short (Some n) = nat_le n longest_lag

abbrev pub is_lag_at : Option ℕ → List ℕ → Bool
is_lag_at None text = is_short (number text)
is_lag_at (Some end) text = is_unit (drop end text) && is_short (number (take end text))

-- a text is a lag: a number, perhaps with a word for days directly behind it
abbrev pub is_lag : List ℕ → Bool
is_lag text = is_lag_at (digits_end text) text
