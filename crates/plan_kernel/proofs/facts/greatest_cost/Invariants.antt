use Rattle.std.proofs.Common.{◌≡◌, ◌+◌, ◌*◌, min}
use Rattle.plan_sgs.specs.Problem.{greatest_below}
use Rattle.plan_kernel.specs.Literals.{at}
use Rattle.plan_kernel.specs.Kernels.{IsCostReached}
use Rattle.plan_kernel.proofs.facts.greatest_cost.Given as goal

-- the greatest end so far, with its tail, is reached
abbrev pub invariant-loop-place : goal.invariant-loop-place
invariant-loop-place l = record {
  reached : IsCostReached l.input l.upper l.greatest;
  value : l.greatest ≡ min
      (greatest_below l.place (λ i. at l.facts (2 * i) + at l.input.durations.items i + at l.input.tails.items i))
      4294967295;
}
