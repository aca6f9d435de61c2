-- The tails so far.
use Rattle.std.proofs.Common.{◌≡◌, ◌<◌, ℕ, length, get_or}
use Rattle.plan_shop.specs.Bound.{tail_of}
use Rattle.plan_shop.proofs.tree.tails.Given as goal

abbrev pub invariant-loop-i : goal.invariant-loop-i
invariant-loop-i l = record { size : length l.tails.items ≡ l.i; each : (x : ℕ) → x < l.i → get_or l.tails.items x 0 ≡ tail_of l.shop x }
