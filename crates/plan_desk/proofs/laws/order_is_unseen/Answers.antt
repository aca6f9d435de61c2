use Rattle.plan_desk.proofs.OrderLemmas.{order_is_unseen, agreeing_views_are_told_alike}
use Rattle.plan_desk.proofs.laws.order_is_unseen.Goals as goal

pub returns-clause-decisions : goal.returns-clause-decisions
returns-clause-decisions c = order_is_unseen

pub returns-clause-stories : goal.returns-clause-stories
returns-clause-stories c = agreeing_views_are_told_alike
