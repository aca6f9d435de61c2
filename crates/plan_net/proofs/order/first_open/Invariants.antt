use Rattle.std.proofs.Common.{ℕ, true, false, ◌≡◌, ◌<◌, get_or}
use Rattle.plan_net.proofs.order.first_open.Given as goal

-- the marks so far are set
abbrev pub invariant-loop-k : goal.invariant-loop-k
invariant-loop-k l = (i : ℕ) → i < l.k → get_or l.placed i false ≡ true
