use Rattle.std.proofs.Common.{map, arith, rules}
use Rattle.std.proofs.lemmas.Result.{err_from_is_err_and}
use Rattle.std.proofs.lemmas.List.{map_push}
use Rattle.std.proofs.lemmas.List.Sums.{sum_by_push}
use Rattle.plan_orlib.specs.Shop.{time_of}
use Rattle.plan_orlib.proofs.StepLemmas.{jobs_go_on, jobs_fail, jobs_done}
use Rattle.plan_orlib.proofs.steps.all_jobs.Goals as goal

pub returns-in_err-row : goal.returns-in_err-row
returns-in_err-row g c =
    let error = err_from_is_err_and c.from_residual.result c.from_residual.ensures.1 in
    rw (error.1, error.2) (jobs_fail c.args.machines c.in_err-row.field-0.0 c.args.jobs c.loop.counter
    (map (λ row. row.items) c.loop.rows.items) c.loop.words _ c.loop-test.true
    (rw c.loop.invariant.total at c.in_err-row.ensures.exact) c.loop.invariant.reads)

pub loop-preserved : goal.loop-preserved
loop-preserved g c =
    let row = c.in_ok-row.row in
    record {
      reads = rw (c.in_ok-push.ensures.items, map_push (λ row. row.items) c.loop.rows.items row.steps)
          (jobs_go_on c.args.machines c.args.jobs c.loop.counter
          (map (λ row. row.items) c.loop.rows.items) c.loop.words row.steps.items c.next_job.new.words _
          c.loop-test.true (rw c.loop.invariant.total at c.in_ok-row.ensures.exact) c.loop.invariant.reads);
      total =
          let pushed = sum_by_push time_of (map (λ row. row.items) c.loop.rows.items) row.steps.items in
          let before = c.loop.invariant.total in
          let now = c.in_ok-row.ensures.total in
          rw (c.in_ok-push.ensures.items, map_push (λ row. row.items) c.loop.rows.items row.steps) (omega (arith, pushed, before, now));
      fits = search rules;
    }

pub returns : goal.returns
returns g c = jobs_done c.args.machines c.args.jobs c.loop.counter (map (λ row. row.items) c.loop.rows.items) c.loop.words _ c.loop-test.false c.loop.invariant.reads
