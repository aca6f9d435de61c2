use Rattle.std.proofs.Common.{Some}
use Rattle.plan_week.proofs.TighteningLemmas.{found_of_week}
use Rattle.plan_week.proofs.tightening.tighten.Goals as goal

pub returns-in-Some-clause-answer : goal.returns-in-Some-clause-answer
returns-in-Some-clause-answer g c =
    found_of_week c.args.week.now c.args.late c.in_ok-input.input _ c.in_ok-solved.solved.answer (Some c.in-Some.found) c.in_ok-input.ensures
    c.in_ok-solved.ensures.answer c.in-Some.ensures
