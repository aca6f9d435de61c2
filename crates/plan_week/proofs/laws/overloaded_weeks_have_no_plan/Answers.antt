use Rattle.plan_week.proofs.OverloadLemmas.{overloads_leave_no_plan}
use Rattle.plan_week.proofs.laws.overloaded_weeks_have_no_plan.Goals as goal

pub returns : goal.returns
returns c = overloads_leave_no_plan
