use Rattle.std.proofs.Common.{◌≤◌, ap, length, arith}
use Rattle.plan_kernel.specs.Reasons.{taken_in}
use Rattle.plan_kernel.proofs.EnergyLemmas.{absent_least, least_whole}
use Rattle.plan_kernel.proofs.reason.absent.Goals as goal

pub loop-absence-preserved : goal.loop-absence-preserved
loop-absence-preserved c =
    absent_least (taken_in c.args.resource c.args.from c.args.until) c.deref-absence-items.result.now c.args.input.now.absences.items c.loop-absence.absence-index
    c.loop-absence.sum c.taken.result c.saturating_add-sum.result c.deref-absence-items.ensures.value c.loop-absence-test.true c.loop-absence.invariant c.taken.ensures
    (omega (arith, c.saturating_add-sum.ensures))

pub returns : goal.returns
returns c =
    let input = c.args.input.now in
    let whole : length input.absences.items ≤ c.loop-absence.absence-index = omega (arith, c.loop-absence-test.false, ap length c.deref-absence-items.ensures.value) in
    least_whole input c.args.resource c.args.from c.args.until c.loop-absence.absence-index c.loop-absence.sum whole c.loop-absence.invariant
