use Rattle.std.proofs.Common.{◌≡◌, length}
use Rattle.plan_kernel.specs.Clauses.{AreFacts}
use Rattle.plan_kernel.specs.Kernels.{AreLatest}
use Rattle.plan_kernel.proofs.facts.raise_latest.Given as goal

-- the facts hold, and say of the activities so far that they end before the upper bound
abbrev pub invariant-loop-place : goal.invariant-loop-place
invariant-loop-place l = record {
  facts : AreFacts l.input l.upper l.facts.items;
  latest : AreLatest l.input l.upper l.facts.items l.place;
  size : length l.facts.items ≡ length l.initial.facts.items;
}
