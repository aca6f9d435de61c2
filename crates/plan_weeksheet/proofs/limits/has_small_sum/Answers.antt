use Rattle.std.proofs.Common.{sym}
use Rattle.plan_net.specs.Limits.{longest_sum}
use Rattle.plan_weeksheet.proofs.SumLemmas.{above_all}
use Rattle.plan_weeksheet.proofs.limits.has_small_sum.Goals as goal

pub returns-then-rectangle-rest : goal.returns-then-rectangle-rest
returns-then-rectangle-rest c =
    sym (above_all c.args.rectangles.now c.loop-rectangle.rectangle-index c.loop-rectangle.rest longest_sum c.rectangle-item.result
    c.loop-rectangle-test.true c.rectangle-item.is c.loop-rectangle.invariant c.if-rectangle-rest.true)
