use Rattle.std.proofs.Common.{◌≤◌, take}
use Rattle.std.specs.List.{sum_by}
use Rattle.plan_prove.specs.Graphs.{time_in}
use Rattle.plan_prove.specs.States.{others_of}
use Rattle.plan_prove.proofs.edges.load.Given as goal

-- no more than the times of the others so far
abbrev pub invariant-loop-step : goal.invariant-loop-step
invariant-loop-step l = l.times ≤ sum_by (time_in l.graph) (others_of l.state l.others (take l.step-index l.clique.items))
