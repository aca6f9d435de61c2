-- The errors of a plan.
use Rattle.plan_solve.specs.declared.fault.SolveFault.{SolveFault}
use Rattle.plan_solve.specs.declared.fault.SolveFault.TheVariants as solving
use Rattle.plan_weeks.specs.declared.fault.PlanFault.{PlanFault}
use Rattle.plan_weeks.specs.declared.fault.PlanFault.TheVariants as faults

-- an error of plan_solve as one of a plan
abbrev pub plan_fault_of : SolveFault → PlanFault
plan_fault_of solving.NoMemory = faults.Memory
plan_fault_of solving.BadConflicts = faults.BadConflicts
