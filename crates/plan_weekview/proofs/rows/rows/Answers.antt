use Rattle.std.proofs.Common.{◌≡◌, ℕ, length, subst, arith}
use Rattle.plan_formats.specs.Tables.{rows_of}
use Rattle.plan_weekview.specs.WeekDays.{AreDayRows}
use Rattle.plan_weekview.proofs.DayLemmas.{next_row}
use Rattle.plan_weekview.proofs.rows.rows.Goals as goal

pub loop-k-preserved : goal.loop-k-preserved
loop-k-preserved c =
    next_row c.args.calendar.now c.args.week.now c.args.plan.now c.loop-k.k _ _ c.in_ok-row.row
    c.loop-k.invariant c.in_ok-row.ensures.row c.in_ok-push_row.ensures

pub returns-clause-rows : goal.returns-clause-rows
returns-clause-rows c =
    let whole : c.loop-k.k ≡ length c.args.week.now.durations.items = omega arith in
    subst (λ (n : ℕ). AreDayRows c.args.calendar.now c.args.week.now c.args.plan.now n (rows_of c.loop-k.rows.items)) whole c.loop-k.invariant
