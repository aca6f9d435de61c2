use Rattle.plan_prove.proofs.proof.by_words.Goals as goal

pub returns-in-Ok : goal.returns-in-Ok
returns-in-Ok c = record { active = c.in-Ok.ensures.active; makespan_is = c.in-Ok.ensures.makespan; within = c.in-Ok.ensures.solution.within }
