use Rattle.std.proofs.Common.{◌≡◌, ◌≤◌, ◌-◌, ◌+◌, [], map, sum}
use Rattle.plan_psplib.specs.Requests.{request_rows_at}
use Rattle.plan_psplib.proofs.sm.requests.request_rows.Given as goal

-- reading the rest after the rows so far gives the total result, and total is the sum of their
-- durations
abbrev pub invariant-loop-done : goal.invariant-loop-done
invariant-loop-done l = record {
  reads : request_rows_at l.resources (l.jobs - l.done) (l.done + 1)
      (record { durations = l.durations.items; needs = map (λ row. row.items) l.needs.items }) l.words ≡
      request_rows_at l.resources l.jobs 1 (record { durations = []; needs = [] }) l.fn.words;
  total : l.total ≡ sum l.durations.items;
  fits : l.total ≤ 1000000;
}
