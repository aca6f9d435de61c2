use Rattle.std.proofs.Common.{arith}
use Rattle.plan_week.proofs.AnswerLemmas.{answer_of_week}
use Rattle.plan_week.proofs.solving.solve_week.Goals as goal

pub returns-clause-answer : goal.returns-clause-answer
returns-clause-answer g c =
    answer_of_week c.args.week.now c.in_ok-input.input c.limit_of-limit.result c.in_ok-solved.solved.answer c.week_answer.result
    c.in_ok-input.ensures (omega (arith, c.limit_of-limit.ensures)) c.in_ok-solved.ensures.answer c.week_answer.ensures
