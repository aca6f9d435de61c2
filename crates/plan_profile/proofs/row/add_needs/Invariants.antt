-- The amounts before the index include their needs; the others are unchanged.
use Rattle.std.proofs.Common.{◌≡◌, ℕ, ◌+◌, ◌≤◌, ◌<◌, get_or}
use Rattle.plan_profile.proofs.row.add_needs.Given as goal

abbrev pub invariant-loop-k : goal.invariant-loop-k
invariant-loop-k l = record {
  done : (j : ℕ) → j < l.k → get_or l.row j 0 ≡ get_or l.fn.row j 0 + get_or l.needs j 0;
  left : (j : ℕ) → l.k ≤ j → get_or l.row j 0 ≡ get_or l.fn.row j 0;
}
