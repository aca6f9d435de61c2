use Rattle.std.proofs.Common.{ℕ, ◌≡◌, ◌≤◌, ◌<◌, length, get_or}
use Rattle.plan_cpm.proofs.floats.greatest.Given as goal

-- `most` is the greatest so far
abbrev pub invariant-loop-k : goal.invariant-loop-k
invariant-loop-k l = record {
  reached : (i : ℕ) × (i < length l.values) × (get_or l.values i 0 ≡ l.most);
  above : (i : ℕ) → i < l.k → get_or l.values i 0 ≤ l.most;
}
