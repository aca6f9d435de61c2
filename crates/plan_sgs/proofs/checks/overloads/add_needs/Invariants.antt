use Rattle.std.proofs.Common.{◌≡◌, ℕ, ◌+◌, ◌≤◌, ◌<◌, length, get_or}
use Rattle.plan_sgs.proofs.checks.overloads.add_needs.Given as goal

-- the sums before the index include their needs; the others are unchanged
abbrev pub invariant-loop-k : goal.invariant-loop-k
invariant-loop-k l = record {
  wide : length l.sums.items ≡ length l.needs;
  done : (m : ℕ) → m < l.k → get_or l.sums.items m 0 ≡ get_or l.fn.sums.items m 0 + get_or l.needs m 0;
  left : (m : ℕ) → l.k ≤ m → get_or l.sums.items m 0 ≡ get_or l.fn.sums.items m 0;
}
