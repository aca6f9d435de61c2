use Rattle.std.proofs.Common.{rules}
use Rattle.std.proofs.lemmas.Result.{err_from_is_err_and}
use Rattle.plan_psplib.specs.declared.text.fault.ReadError.TheVariants as errors
use Rattle.plan_psplib.proofs.RowLemmas.{successors_go_on, successors_fail, successors_done}
use Rattle.plan_psplib.proofs.StampLemmas.{AreMarks-nil, AreBelow-more}
use Rattle.plan_psplib.proofs.sm.precedence.successors.Goals as goal

pub loop-init : goal.loop-init
loop-init c = record {
  reads = search rules;
  marked = rw c.in_ok-found.ensures.items (AreMarks-nil c.args.row c.args.marks.now.items c.requires.below);
  below = AreBelow-more c.args.row c.args.marks.now.items c.requires.below;
  room = c.requires.room;
}

pub returns-in_err-job-clause-exact : goal.returns-in_err-job-clause-exact
returns-in_err-job-clause-exact c =
    let error = err_from_is_err_and c.from_residual-in_err-job.result c.from_residual-in_err-job.ensures.1 in
    rw (error.1, error.2) (successors_fail c.args.jobs
    (errors.Fault c.in_err-job.field-0.0) c.args.count c.loop.counter c.loop.found.items c.loop.words _
    c.loop-test.true (c.in_err-job.ensures.exact c.loop.found.items c.loop.invariant.marked) c.loop.invariant.reads)

pub loop-preserved : goal.loop-preserved
loop-preserved c = record {
  reads = rw c.in_ok-push.ensures.items (successors_go_on c.args.jobs c.args.count c.loop.counter
      c.loop.found.items c.loop.words c.in_ok-job.job c.successor.new.words _ c.loop-test.true
      (c.in_ok-job.ensures.exact c.loop.found.items c.loop.invariant.marked)
      c.loop.invariant.reads);
  marked = rw c.in_ok-push.ensures.items (c.in_ok-job.ensures.marked c.loop.found.items c.loop.invariant.marked);
  below = c.in_ok-job.ensures.below c.loop.invariant.below;
  room = c.in_ok-job.ensures.room;
}

pub returns-clause-exact : goal.returns-clause-exact
returns-clause-exact c = successors_done c.args.jobs c.args.count c.loop.counter c.loop.found.items c.loop.words _ c.loop-test.false c.loop.invariant.reads
