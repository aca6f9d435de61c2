-- The working days of schedules, and their refusals.
use Rattle.std.proofs.Common.{inl, inr, Option}
use denote.Ref.{Bor}
use Rattle.plan_calendar.specs.WorkingDay.{Workdays}
use Rattle.plan_errors.specs.declared.fault.CliFault.{CliFault}
use Rattle.plan_errors.specs.Output.{Refuses}
use Rattle.plan_documents.specs.declared.documents.Plan.{Plan}
use Rattle.plan_cli.specs.declared.schedules.Scheduled.{Scheduled}
use Rattle.plan_cli.specs.declared.origins.Origin.{Origin}
use Rattle.plan_cli.specs.Scheduled.{IsMadeFrom}
use Rattle.plan_cli.specs.declared.calendars.Dates.{Dates}
use Rattle.plan_cli.specs.Calendars.{IsDated, TellsNoCalendar}
use Rattle.plan_cli.specs.DaysRun.{TellsBeyond, HasDayBeyond, TellsNoDaysFrom}
use Rattle.plan_cli.specs.TaskViews.{IsDaysViewFrom, ShowsDaysOf}
use Rattle.plan_cli.specs.Views.{View}
use Rattle.plan_views.specs.declared.moments.MomentStyle.{MomentStyle}
use Rattle.plan_documents.proofs.ErrorLemmas.{refuses_as}

pub no_calendar : (from : Origin) (dates : Dates) (style : Option (Bor MomentStyle)) (p : Plan) (m : Scheduled) (e : CliFault) → IsMadeFrom from p m
    → Refuses (TellsNoCalendar dates) e → Refuses (TellsNoDaysFrom from dates style p) e
no_calendar from dates style p m e made t =
    refuses_as (TellsNoCalendar dates) (TellsNoDaysFrom from dates style p) e
    (λ line tells. inr (record { starts = m.schedule.starts.items; schedule = made.starts; hidden = inl tells })) t

pub days_beyond : (from : Origin) (dates : Dates) (style : Option (Bor MomentStyle)) (p : Plan) (m : Scheduled) (c : Workdays) (e : CliFault)
    → IsMadeFrom from p m → IsDated dates c
    → Refuses (TellsBeyond (HasDayBeyond style p m.schedule.starts.items c)) e → Refuses (TellsNoDaysFrom from dates style p) e
days_beyond from dates style p m c e made is t =
    refuses_as (TellsBeyond (HasDayBeyond style p m.schedule.starts.items c)) (TellsNoDaysFrom from dates style p) e
    (λ line tells. inr (record {
      starts = m.schedule.starts.items;
      schedule = made.starts;
      hidden = inr (c, is, tells);
    })) t

-- the days of a schedule are those of its plan
pub days_shown : (from : Origin) (dates : Dates) (style : Option (Bor MomentStyle)) (p : Plan) (m : Scheduled) (c : Workdays) (v : View)
    → IsMadeFrom from p m → IsDated dates c → ShowsDaysOf style p m.schedule.starts.items c v → IsDaysViewFrom from dates style p v
days_shown from dates style p m c v made is shown = record {
  starts = m.schedule.starts.items;
  schedule = made.starts;
  calendar = c;
  dated = is;
  shown = shown;
}
