use Rattle.plan_sgs.specs.Instances.{problem_of}
use Rattle.plan_sgs.specs.Checks.{IsOverAmong}
use Rattle.plan_sgs.proofs.checks.overloads.first_over.Given as goal

-- the least overloaded one of the starts so far
abbrev pub invariant-loop-i : goal.invariant-loop-i
invariant-loop-i l = IsOverAmong (problem_of l.instance) l.starts l.i l.least
