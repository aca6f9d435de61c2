use Rattle.std.proofs.lemmas.Result.{err_from_is_err_and}
use Rattle.plan_psplib.specs.declared.text.fault.ReadError.TheVariants as errors
use Rattle.plan_report.proofs.NumberLemmas.{starts_go_on, starts_fail, starts_done}
use Rattle.plan_report.proofs.start_numbers.next_starts.Goals as goal

pub returns-in_err-start : goal.returns-in_err-start
returns-in_err-start c =
    let error = err_from_is_err_and c.from_residual.result c.from_residual.ensures.1 in
    rw (error.1, error.2) (starts_fail (errors.Fault c.in_err-start.field-0.0) c.args.count c.loop.counter
    c.loop.starts.items c.loop.tokens _ c.loop-test.true c.in_err-start.ensures.exact c.loop.invariant)

pub loop-preserved : goal.loop-preserved
loop-preserved c =
    rw c.in_ok-push.ensures.items (starts_go_on c.args.count c.loop.counter c.loop.starts.items c.loop.tokens
    c.in_ok-start.start c.within.new.words _ c.loop-test.true c.in_ok-start.ensures.exact
    c.loop.invariant)

pub returns : goal.returns
returns c = starts_done c.args.count c.loop.counter c.loop.starts.items c.loop.tokens _ c.loop-test.false c.loop.invariant
