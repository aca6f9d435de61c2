use Rattle.plan_sgs.specs.Instances.{problem_of}
use Rattle.plan_sgs.proofs.StartLemmas.{AreSums}
use Rattle.plan_sgs.proofs.checks.overloads.needs_at.Given as goal

-- the sums are those of the activities so far
abbrev pub invariant-loop-k : goal.invariant-loop-k
invariant-loop-k l = AreSums (problem_of l.instance) l.starts l.t l.k l.sums.items
