use Rattle.std.proofs.Common.{sym, arith}
use Rattle.plan_kernel.proofs.PlanLemmas.{taken_during, taken_before, taken_late, taken_elsewhere}
use Rattle.plan_week.proofs.overload.taken.Goals as goal

pub returns-then-absence-resource-clause-value : goal.returns-then-absence-resource-clause-value
returns-then-absence-resource-clause-value c = sym (taken_elsewhere c.args.instant c.args.resource c.args.absence c.if-absence-resource.true)
