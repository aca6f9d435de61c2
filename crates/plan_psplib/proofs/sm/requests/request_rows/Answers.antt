use Rattle.std.proofs.Common.{map, refl, rules}
use Rattle.std.proofs.lemmas.Result.{err_from_is_err_and}
use Rattle.std.proofs.lemmas.List.{map_push}
use Rattle.std.proofs.lemmas.List.Sums.{sum_by_push}
use Rattle.plan_psplib.specs.Requests.{Requests, request_of}
use Rattle.plan_psplib.proofs.RequestLemmas.{requests_go_on, requests_fail, requests_done}
use Rattle.plan_psplib.proofs.sm.requests.request_rows.Goals as goal

pub returns-in_err-row : goal.returns-in_err-row
returns-in_err-row c =
    let error = err_from_is_err_and c.from_residual.result c.from_residual.ensures.1 in
    let so_far : Requests = record { durations = c.loop-done.durations.items; needs = map (λ row. row.items) c.loop-done.needs.items } in
    rw (error.1, error.2) (requests_fail c.args.resources c.in_err-row.field-0.0 c.args.jobs c.loop-done.done
    _ so_far c.loop-done.words _ c.loop-done-test.true
    (rw c.loop-done.invariant.total at c.in_err-row.ensures.exact) c.loop-done.invariant.reads)

pub loop-done-preserved : goal.loop-done-preserved
loop-done-preserved c =
    let so_far : Requests = record { durations = c.loop-done.durations.items; needs = map (λ row. row.items) c.loop-done.needs.items } in
    let row = c.in_ok-row.row in
    record {
      reads = rw (
        c.in_ok-push.ensures.items,
        c.in_ok-push-2.ensures.items,
        map_push
            (λ row. row.items) c.loop-done.needs.items row.needs,
      )
          (requests_go_on c.args.resources c.args.jobs c.loop-done.done _ so_far c.loop-done.words
          (request_of row) c.request_row.new.words _ c.loop-done-test.true
          (rw c.loop-done.invariant.total at c.in_ok-row.ensures.exact) c.loop-done.invariant.reads);
      total = rw (c.in_ok-push.ensures.items, sum_by_push (λ n. n) c.loop-done.durations.items row.duration, c.loop-done.invariant.total) refl;
      fits = search rules;
    }

pub returns : goal.returns
returns c =
    let so_far : Requests = record { durations = c.loop-done.durations.items; needs = map (λ row. row.items) c.loop-done.needs.items } in
    requests_done c.args.resources c.args.jobs c.loop-done.done _ so_far c.loop-done.words _ c.loop-done-test.false c.loop-done.invariant.reads
