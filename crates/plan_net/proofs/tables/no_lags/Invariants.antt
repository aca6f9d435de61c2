use Rattle.std.proofs.Common.{ℕ, ◌≡◌, ◌<◌, length, replicate}
use Rattle.plan_net.specs.Indexed.{row_at}
use Rattle.plan_net.proofs.tables.no_lags.Given as goal

-- the rows of lags so far
abbrev pub invariant-loop-k : goal.invariant-loop-k
invariant-loop-k l = record {
  whole : length l.lags.items ≡ l.k;
  each : (k : ℕ) → k < length l.lags.items → row_at l.lags.items k ≡ replicate (length (row_at l.rows k)) 0;
}
