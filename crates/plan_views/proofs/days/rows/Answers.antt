use Rattle.std.proofs.Common.{◌≡◌, ℕ, subst, arith}
use Rattle.plan_formats.specs.Tables.{rows_of}
use Rattle.plan_views.specs.DayTables.{AreDaysRows}
use Rattle.plan_views.specs.Plans.{count_of, front_of, interval_of, plan_of}
use Rattle.plan_views.proofs.DayLemmas.{next_days_row}
use Rattle.plan_views.proofs.days.rows.Goals as goal

pub loop-k-preserved : goal.loop-k-preserved
loop-k-preserved c =
    let p = plan_of c.args.plan in
    next_days_row c.args.calendar.now (front_of p) (interval_of p c.args.starts.now) c.loop-k.k _ _ c.in_ok-row.row
    c.loop-k.invariant c.in_ok-row.ensures.row c.in_ok-push_row.ensures

pub returns-clause-rows : goal.returns-clause-rows
returns-clause-rows c =
    let p = plan_of c.args.plan in
    let whole : c.loop-k.k ≡ count_of p = omega arith in
    subst (λ (n : ℕ). AreDaysRows c.args.calendar.now (front_of p) (interval_of p c.args.starts.now) n (rows_of c.loop-k.rows.items)) whole c.loop-k.invariant
