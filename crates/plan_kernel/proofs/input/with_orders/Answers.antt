use Rattle.std.proofs.Common.{refl}
use Rattle.plan_kernel.specs.Inputs.{problem_of}
use Rattle.plan_kernel.specs.Plans.{numbers_of}
use Rattle.plan_kernel.proofs.input.with_orders.Goals as goal

pub returns-clause-same : goal.returns-clause-same
unfolding problem_of numbers_of
returns-clause-same c = refl
