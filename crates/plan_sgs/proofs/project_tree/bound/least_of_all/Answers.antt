-- The greater of the two.
use Rattle.std.proofs.Common.{arith}
use Rattle.plan_sgs.specs.ProjectWords.{least_of_all}
use Rattle.plan_sgs.proofs.project_tree.bound.least_of_all.Goals as goal

pub returns : goal.returns
unfolding least_of_all
returns c = omega (arith, c.longest_path.ensures, c.greatest_busy_time.ensures, c.max.ensures)
