use Rattle.std.proofs.Common.{arith}
use Rattle.plan_week.proofs.overload.overload_at.Goals as goal

pub returns-then-instant-week : goal.returns-then-instant-week
returns-then-instant-week c k t is over = omega (arith, is, over.since, c.if-instant-week.true)
