use Rattle.std.proofs.Common.{arith, rules}
use Rattle.std.proofs.lemmas.Result.{err_from_is_err_and}
use Rattle.std.proofs.lemmas.List.Sums.{sum_by_push}
use Rattle.plan_psplib.specs.declared.text.fault.ReadError.TheVariants as errors
use Rattle.plan_orlib.specs.declared.steps.Step.{Step}
use Rattle.plan_orlib.proofs.StepLemmas.{steps_go_on, steps_fail, steps_done}
use Rattle.plan_orlib.proofs.steps.next_job.Goals as goal

pub returns-in_err-step-clause-exact : goal.returns-in_err-step-clause-exact
returns-in_err-step-clause-exact g c =
    let error = err_from_is_err_and c.from_residual.result c.from_residual.ensures.1 in
    rw (error.1, error.2) (steps_fail c.args.machines c.args.before
    (errors.Fault c.in_err-step.field-0.0) c.args.machines c.loop.counter c.loop.steps.items c.loop.words
    _ c.loop-test.true (rw c.loop.invariant.total at c.in_err-step.ensures.exact) c.loop.invariant.reads)

pub loop-preserved : goal.loop-preserved
loop-preserved g c =
    let step = c.in_ok-step.step in
    record {
      reads = rw c.in_ok-push.ensures.items (steps_go_on c.args.machines c.args.before c.args.machines
          c.loop.counter c.loop.steps.items c.loop.words step c.next_step.new.words _ c.loop-test.true
          (rw c.loop.invariant.total at c.in_ok-step.ensures.exact) c.loop.invariant.reads);
      total = let pushed = sum_by_push (λ (step : Step). step.time) c.loop.steps.items step in let before = c.loop.invariant.total in rw c.in_ok-push.ensures.items (omega (arith, pushed, before));
      fits = search rules;
    }

pub returns-clause-exact : goal.returns-clause-exact
returns-clause-exact g c = steps_done c.args.machines c.args.before c.args.machines c.loop.counter c.loop.steps.items c.loop.words _ c.loop-test.false c.loop.invariant.reads
