use Rattle.std.proofs.Common.{arith, rules, sym}
use Rattle.plan_sheet.specs.Days.{IsDayAfter}
use Rattle.plan_sheet.proofs.ZipLemmas.{next_pair}
use Rattle.plan_sheet.proofs.days.days_after.Goals as goal

pub loop-day-preserved : goal.loop-day-preserved
loop-day-preserved c =
    next_pair IsDayAfter c.args.days.now c.loop-day.day-index c.day-item.result _ _ c.in_ok-next.next (omega arith)
    c.day-item.is c.loop-day.invariant c.in_ok-push_day.ensures c.in_ok-next.ensures.next

pub returns-in_err-next-clause-beyond : goal.returns-in_err-next-clause-beyond
returns-in_err-next-clause-beyond c is =
    (c.day-item.result, (c.loop-day.day-index, omega arith, sym c.day-item.is), c.day_after.ensures.beyond (search rules))
