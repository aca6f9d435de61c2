use Rattle.std.proofs.Common.{arith}
use Rattle.plan_kernel.proofs.InputLemmas.{count_is}
use Rattle.plan_kernel.proofs.FeasibleLemmas.{greatest_whole}
use Rattle.plan_kernel.proofs.feasible.greatest_cost.Goals as goal

pub returns : goal.returns
returns c =
    greatest_whole c.args.input.now c.args.starts.now c.loop-place.place c.loop-place.greatest
    (omega (arith, c.loop-place-test.false, c.loop-place.auto.place-end, c.len-place-end.ensures, count_is c.args.input.now)) c.loop-place.invariant
