use Rattle.plan_cli.proofs.CalendarLemmas.{told_bad_holidays}
use Rattle.plan_cli.proofs.calendars.with_holidays.Goals as goal

pub returns-in-Err-clause-refused : goal.returns-in-Err-clause-refused
returns-in-Err-clause-refused c =
    told_bad_holidays c.args.text.now c.in-Err.fault c.holiday_refusal-in-Err.result c.in-Err.ensures.refused c.holiday_refusal-in-Err.ensures.told
