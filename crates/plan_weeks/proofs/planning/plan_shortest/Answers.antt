use Rattle.plan_weeks.proofs.planning.plan_shortest.Goals as goal

pub returns-in-Impossible-clause-refused : goal.returns-in-Impossible-clause-refused
returns-in-Impossible-clause-refused g c = c.refuted.ensures c.args.conflicts
