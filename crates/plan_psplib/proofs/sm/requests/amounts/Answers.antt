use Rattle.std.proofs.lemmas.Result.{err_from_is_err_and}
use Rattle.plan_psplib.specs.declared.text.fault.ReadError.TheVariants as errors
use Rattle.plan_psplib.proofs.RequestLemmas.{amounts_go_on, amounts_fail, amounts_done}
use Rattle.plan_psplib.proofs.sm.requests.amounts.Goals as goal

pub returns-in_err-amount : goal.returns-in_err-amount
returns-in_err-amount c =
    let error = err_from_is_err_and c.from_residual-in_err-amount.result c.from_residual-in_err-amount.ensures.1 in
    rw (error.1, error.2) (amounts_fail (errors.Fault c.in_err-amount.field-0.0) c.args.count c.loop.counter
    c.loop.amounts.items c.loop.words _ c.loop-test.true c.in_err-amount.ensures.exact c.loop.invariant)

pub loop-preserved : goal.loop-preserved
loop-preserved c =
    rw c.in_ok-push.ensures.items (amounts_go_on c.args.count c.loop.counter c.loop.amounts.items c.loop.words
    c.in_ok-amount.amount c.within.new.words _ c.loop-test.true c.in_ok-amount.ensures.exact
    c.loop.invariant)

pub returns : goal.returns
returns c = amounts_done c.args.count c.loop.counter c.loop.amounts.items c.loop.words _ c.loop-test.false c.loop.invariant
