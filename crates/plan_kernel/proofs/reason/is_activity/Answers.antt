use Rattle.std.proofs.Common.{arith}
use Rattle.std.proofs.lemmas.Bool.{ltb-true}
use Rattle.plan_kernel.proofs.InputLemmas.{count_is}
use Rattle.plan_kernel.proofs.reason.is_activity.Goals as goal

pub returns-then-activity-len : goal.returns-then-activity-len
returns-then-activity-len c small =
    (omega (arith, c.if-activity-len.true, c.len.ensures, count_is c.args.input.now), ltb-true c.args.activity 1073741824 small)
