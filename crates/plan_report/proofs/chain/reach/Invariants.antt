use Rattle.plan_sgs.specs.Instances.{problem_of}
use Rattle.plan_report.proofs.ReachLemmas.{IsStep}
use Rattle.plan_report.proofs.chain.reach.Given as goal

-- those that lead to the target so far are reached
abbrev pub invariant-loop-k : goal.invariant-loop-k
invariant-loop-k l = IsStep (problem_of l.instance) l.starts l.slacks l.at l.fn.marks.items l.fn.reached.items l.marks.items l.reached.items l.nexts.items l.k
