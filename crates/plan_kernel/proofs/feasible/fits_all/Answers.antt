use Rattle.std.proofs.Common.{arith}
use Rattle.plan_kernel.proofs.InputLemmas.{resources_are}
use Rattle.plan_kernel.proofs.feasible.fits_all.Goals as goal

pub returns-clause-yes : goal.returns-clause-yes
returns-clause-yes c _ k inside =
    c.loop-resource.invariant k (omega (arith, inside, c.loop-resource-test.false, c.len-resource-end.ensures, resources_are c.args.input.now))

pub returns-then-not-fits-clause-no : goal.returns-then-not-fits-clause-no
returns-then-not-fits-clause-no c _ all =
    c.fits.ensures.no c.if-not-fits.true
    (all c.loop-resource.resource (omega (arith, c.loop-resource-test.true, c.len-resource-end.ensures, resources_are c.args.input.now)))
