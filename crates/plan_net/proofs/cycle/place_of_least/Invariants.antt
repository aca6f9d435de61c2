use Rattle.std.proofs.Common.{ℕ, ◌≤◌, ◌<◌, length, get_or}
use Rattle.plan_net.proofs.cycle.place_of_least.Given as goal

-- the least of the members so far is at `place`
abbrev pub invariant-loop-k : goal.invariant-loop-k
invariant-loop-k l = record {
  inside : l.place < length l.members;
  least : (i : ℕ) → i < l.k → get_or l.members l.place 0 ≤ get_or l.members i 0;
}
