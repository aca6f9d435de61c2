use Rattle.plan_exact.proofs.MemoLemmas.{one_step_more}
use Rattle.plan_exact.proofs.questions.Question.of_shop.Goals as goal

pub loop-i-preserved : goal.loop-i-preserved
loop-i-preserved c = rw c.in_ok-push.ensures.items (rw c.loop-i.invariant (one_step_more c.args.shop.now.steps c.loop-i.i c.step.result c.step.ensures.value))
