use Rattle.std.proofs.Common.{take}
use Rattle.std.specs.List.{All}
use Rattle.plan_kernel.specs.Inputs.{problem_of, KeepsArc}
use Rattle.plan_kernel.proofs.feasible.keeps_arcs.Given as goal

-- the arcs so far are kept
abbrev pub invariant-loop-arc : goal.invariant-loop-arc
invariant-loop-arc l = All (KeepsArc (problem_of l.input) l.starts) (take l.arc-index l.input.arcs.items)
