use Rattle.std.proofs.Common.{rules, ◌≡◌, ◌∙◌, IfErr}
use Rattle.plan_calendar.specs.CalendarText.{RefusesTexts}
use Rattle.plan_errors.specs.Output.{Refuses}
use Rattle.plan_holidays.specs.WeekdayText.{digits_of}
use Rattle.plan_orlib.proofs.NameLemmas.{mapped}
use Rattle.plan_cli.specs.Calendars.{TellsBadDates, TellsCalendarFault}
use Rattle.plan_cli.proofs.CalendarLemmas.{told_bad_dates}
use Rattle.plan_cli.proofs.calendars.plain_calendar.Goals as goal

pub returns-clause-refused : goal.returns-clause-refused
returns-clause-refused c =
    let dates = c.args.dates in
    let same : c.as_str.result.now ≡ digits_of dates.marks.now = c.as_str.ensures.value ∙ c.in_ok-digits.ensures in
    let refused = c.new.ensures.refused in
    mapped c.new.result c.map_err.result _ (λ told. IfErr told (Refuses (TellsBadDates dates)))
    c.map_err.ensures.cases (λ calendar is. tt)
    (λ fault e is learnt.
    let failing : RefusesTexts dates.start.now c.as_str.result.now fault = search rules in
    let tells : Refuses (TellsCalendarFault fault) e = search rules in
    told_bad_dates dates c.as_str.result.now fault e same failing tells)
