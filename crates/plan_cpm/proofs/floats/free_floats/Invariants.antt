use Rattle.std.proofs.Common.{ℕ, ◌≡◌, ◌+◌, ◌<◌, length, get_or}
use Rattle.plan_cpm.specs.Dates.{IsNextStart}
use Rattle.plan_cpm.proofs.floats.free_floats.Given as goal

-- the free floats so far
abbrev pub invariant-loop-k : goal.invariant-loop-k
invariant-loop-k l = record {
  whole : length l.list.items ≡ l.k;
  next : (i : ℕ) → i < l.k → IsNextStart l.network l.finishes l.duration (i + 1) (get_or l.finishes i 0 + get_or l.list.items i 0);
}
