use Rattle.plan_weekdates.proofs.cells.allowed_date.Goals as goal

pub returns-then-is_refused-clause-refused : goal.returns-then-is_refused-clause-refused
returns-then-is_refused-clause-refused c = (c.in-Some.date, c.in-Some.ensures.some, c.is_refused.ensures.0 c.if-is_refused.true)
