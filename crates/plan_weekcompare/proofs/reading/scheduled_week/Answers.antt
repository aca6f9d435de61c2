use Rattle.plan_weekcompare.proofs.OutputLemmas.{is_schedule}
use Rattle.plan_weekcompare.proofs.reading.scheduled_week.Goals as goal

pub returns-clause-schedule : goal.returns-clause-schedule
returns-clause-schedule c =
    is_schedule c.args.order.now c.args.given c.in_ok-listed.listed c.in_ok-starts.starts.items c.in_ok-listed.ensures.week c.in_ok-starts.ensures.given
