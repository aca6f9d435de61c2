use Rattle.std.proofs.Common.{◌≡◌, ◌+◌, ℕ, subst, arith}
use Rattle.plan_week.specs.TardinessAnswers.{IsSameTardiness}
use Rattle.plan_week.proofs.TardyAnswerLemmas.{tardy_answer_of}
use Rattle.plan_week.proofs.tardiness.solve_tardiness.Goals as goal

pub returns-clause-answer : goal.returns-clause-answer
returns-clause-answer g c =
    tardy_answer_of c.args.week.now c.in_ok-input.input c.min-limit.result (c.min-limit.result + c.latest_due-latest.result) c.in_ok-solved.solved.answer
    c.tardy_answer.result c.in_ok-input.ensures (omega (arith, c.min-limit.ensures, c.latest_due-latest.ensures, c.requires))
    (omega (arith, c.latest_due-latest.ensures)) c.in_ok-solved.ensures.answer
    (subst (λ (x : ℕ). IsSameTardiness x c.in_ok-solved.solved.answer c.tardy_answer.result) c.latest_due-latest.ensures c.tardy_answer.ensures)
