-- None of the activities so far needs too much.
use Rattle.std.proofs.Common.{ℕ, ◌<◌}
use Rattle.plan_sgs.specs.Problem.{IsTooMuch}
use Rattle.plan_sgs.specs.Instances.{problem_of, planned}
use Rattle.plan_sgs.proofs.instance.first_too_much.Given as goal

abbrev pub invariant-loop-i : goal.invariant-loop-i
invariant-loop-i l = (h q : ℕ) → h < l.i → IsTooMuch (problem_of (planned l.project l.caps)) h q → ⊥
