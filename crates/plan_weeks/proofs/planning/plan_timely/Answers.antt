use Rattle.plan_weeks.proofs.planning.plan_timely.Goals as goal

pub returns-in-NotOnTime-clause-refused : goal.returns-in-NotOnTime-clause-refused
returns-in-NotOnTime-clause-refused g c = c.refuted.ensures c.args.conflicts
