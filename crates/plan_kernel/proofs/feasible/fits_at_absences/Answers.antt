use Rattle.std.proofs.Common.{ap, length, arith}
use Rattle.plan_kernel.proofs.FeasibleLemmas.{begin_more, begins_whole}
use Rattle.plan_kernel.proofs.feasible.fits_at_absences.Goals as goal

pub loop-absence-preserved : goal.loop-absence-preserved
loop-absence-preserved c =
    begin_more c.args.input.now c.args.starts.now c.deref-absence-items.result.now c.loop-absence.absence-index c.deref-absence-items.ensures.value
    c.loop-absence-test.true c.loop-absence.invariant (c.fits_all.ensures.yes c.if-not-fits_all.false)

pub returns-clause-yes : goal.returns-clause-yes
returns-clause-yes c _ =
    begins_whole c.args.input.now c.args.starts.now c.loop-absence.absence-index
    (omega (arith, c.loop-absence-test.false, ap length c.deref-absence-items.ensures.value)) c.loop-absence.invariant

pub returns-then-not-fits_all-clause-no : goal.returns-then-not-fits_all-clause-no
returns-then-not-fits_all-clause-no c _ always = c.fits_all.ensures.no c.if-not-fits_all.true (always _)
