use Rattle.std.proofs.Common.{◌∙◌, sym, arith}
use Rattle.plan_kernel.proofs.InputLemmas.{count_is}
use Rattle.plan_kernel.proofs.FeasibleLemmas.{fits_whole, over_with}
use Rattle.plan_kernel.proofs.feasible.fits.Goals as goal

pub returns-clause-yes : goal.returns-clause-yes
returns-clause-yes c _ =
    let input = c.args.input.now in
    fits_whole input c.args.starts.now c.args.instant c.args.resource c.loop-place.place c.loop-place.used
    (c.requires ∙ sym (count_is input)) (omega (arith, c.loop-place-test.false, c.loop-place.auto.place-end, c.len-place-end.ensures, count_is input))
    c.loop-place.invariant.sum (omega (arith, c.loop-place.invariant.most, c.capacity-capacity.ensures))

pub returns-then-amount-capacity-clause-no : goal.returns-then-amount-capacity-clause-no
returns-then-amount-capacity-clause-no c _ =
    let input = c.args.input.now in
    over_with input c.args.starts.now c.args.instant c.args.resource c.loop-place.place c.loop-place.used c.amount-amount.result
    (c.requires ∙ sym (count_is input)) (omega (arith, c.loop-place-test.true, c.len-place-end.ensures, count_is input)) c.loop-place.invariant.sum c.amount-amount.ensures.value
    (omega (arith, c.loop-place.invariant.most, c.capacity-capacity.ensures)) (omega (arith, c.if-amount-capacity.true, c.capacity-capacity.ensures))
