use Rattle.plan_kernel.proofs.FeasibleLemmas.{start_more, starts_whole}
use Rattle.plan_kernel.proofs.feasible.fits_at_starts.Goals as goal

pub loop-start-preserved : goal.loop-start-preserved
loop-start-preserved c =
    start_more c.args.input.now c.args.starts.now c.loop-start.start-index c.loop-start-test.true c.loop-start.invariant (c.fits_all.ensures.yes c.if-not-fits_all.false)

pub returns-clause-yes : goal.returns-clause-yes
returns-clause-yes c _ = starts_whole c.args.input.now c.args.starts.now c.loop-start.start-index c.loop-start-test.false c.loop-start.invariant

pub returns-then-not-fits_all-clause-no : goal.returns-then-not-fits_all-clause-no
returns-then-not-fits_all-clause-no c _ always = c.fits_all.ensures.no c.if-not-fits_all.true (always _)
