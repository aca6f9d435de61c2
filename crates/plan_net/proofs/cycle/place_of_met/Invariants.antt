use Rattle.std.proofs.Common.{ℕ, ◌≡◌, ◌<◌, ◌⊎◌, length, get_or}
use Rattle.plan_net.proofs.cycle.place_of_met.Given as goal

-- the activity is at `place`, or not among those so far
abbrev pub invariant-loop-k : goal.invariant-loop-k
invariant-loop-k l = record {
  inside : l.place < length l.trail;
  found : (get_or l.trail l.place 0 ≡ l.at) ⊎ ((i : ℕ) → i < l.k → get_or l.trail i 0 ≡ l.at → ⊥);
}
