use Rattle.plan_weeksheet.proofs.EndLemmas.{ends_with_plan}
use Rattle.plan_weeksheet.proofs.laws.rectangles_end_with_the_plan.Goals as goal

pub returns : goal.returns
returns c = ends_with_plan
