-- The needs looked at so far are within their capacities.
use Rattle.std.proofs.Common.{ℕ, ◌<◌, ◌≤◌, get_or}
use Rattle.plan_sgs.proofs.instance.first_above.Given as goal

abbrev pub invariant-loop-k : goal.invariant-loop-k
invariant-loop-k l = (q : ℕ) → q < l.k → get_or l.needs q 0 ≤ get_or l.caps q 0
