use Rattle.std.proofs.Common.{sym, subst}
use Rattle.plan_holidays.specs.declared.fault.HolidayFault.{HolidayFault}
use Rattle.plan_holidays.specs.declared.fault.HolidayFault.TheVariants as holiday
use Rattle.plan_errors.specs.Output.{Refuses}
use Rattle.plan_errors.specs.declared.codes.Code.TheVariants as code
use Rattle.plan_errors.specs.declared.context.About.TheVariants as about
use Rattle.plan_errors.proofs.RefusalLemmas.{refused_with}
use Rattle.plan_cli.specs.Calendars.{TellsHolidayFault}
use Rattle.plan_cli.proofs.calendar_refusals.holiday_refusal.Goals as goal

pub returns-in-BadLine-clause-told : goal.returns-in-BadLine-clause-told
returns-in-BadLine-clause-told c =
    subst (λ (f : HolidayFault). Refuses (TellsHolidayFault f) c.refuse.result) (sym c.in-BadLine.is)
    (refused_with (TellsHolidayFault (holiday.BadLine c.in-BadLine.line)) code.BadHoliday about.Holidays c.date_parts.result c.refuse.result
    c.date_parts.ensures c.refuse.ensures.made c.refuse.ensures.memory)
