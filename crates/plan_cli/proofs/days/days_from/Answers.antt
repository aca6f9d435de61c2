use Rattle.std.proofs.lemmas.Result.{IfOk-weaker, err_from_is_err_and}
use Rattle.plan_errors.specs.Output.{Refuses}
use Rattle.plan_documents.proofs.ErrorLemmas.{if_err_weaker}
use Rattle.plan_cli.specs.DaysRun.{HasDayBeyond, TellsBeyond, TellsNoDaysFrom}
use Rattle.plan_cli.specs.TaskViews.{IsDaysViewFrom, ShowsDaysOf}
use Rattle.plan_cli.specs.Views.{view_of}
use Rattle.plan_cli.proofs.DaysLemmas.{days_beyond, days_shown, no_calendar}
use Rattle.plan_cli.proofs.days.days_from.Goals as goal

pub returns-clause-made : goal.returns-clause-made
returns-clause-made g c =
    let a = c.args in
    let starts = c.in_ok-made.made.schedule.starts.items in
    IfOk-weaker c.shown_days.result (λ v. ShowsDaysOf a.style a.plan.now starts c.in_ok-calendar.calendar (view_of v))
    (λ v. IsDaysViewFrom a.origin a.dates a.style a.plan.now (view_of v))
    (λ v shown. days_shown a.origin a.dates a.style a.plan.now c.in_ok-made.made c.in_ok-calendar.calendar (view_of v)
    c.in_ok-made.ensures.made c.in_ok-calendar.ensures.made shown) c.shown_days.ensures.made

pub returns-clause-refused : goal.returns-clause-refused
returns-clause-refused g c =
    let a = c.args in
    let starts = c.in_ok-made.made.schedule.starts.items in
    if_err_weaker c.shown_days.result (Refuses (TellsBeyond (HasDayBeyond a.style a.plan.now starts c.in_ok-calendar.calendar)))
    (Refuses (TellsNoDaysFrom a.origin a.dates a.style a.plan.now))
    (λ e refused. days_beyond a.origin a.dates a.style a.plan.now c.in_ok-made.made c.in_ok-calendar.calendar e
    c.in_ok-made.ensures.made c.in_ok-calendar.ensures.made refused) c.shown_days.ensures.refused

pub returns-in_err-calendar-clause-refused : goal.returns-in_err-calendar-clause-refused
returns-in_err-calendar-clause-refused g c =
    let a = c.args in
    let error = err_from_is_err_and c.from_residual-in_err-calendar.result c.from_residual-in_err-calendar.ensures.1 in
    rw (error.1, error.2) (no_calendar a.origin a.dates a.style a.plan.now c.in_ok-made.made c.in_err-calendar.field-0.0
    c.in_ok-made.ensures.made c.in_err-calendar.ensures.refused)
