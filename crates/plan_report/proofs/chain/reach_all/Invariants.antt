use Rattle.plan_sgs.specs.Instances.{problem_of}
use Rattle.plan_report.specs.Chain.{IsClosed}
use Rattle.plan_report.proofs.chain.reach_all.Given as goal

-- those that lead to the targets so far are reached
abbrev pub invariant-loop-m : goal.invariant-loop-m
invariant-loop-m l = IsClosed (problem_of l.instance) l.starts l.slacks l.marks.items l.reached.items l.nexts.items l.m
