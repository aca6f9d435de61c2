use Rattle.std.proofs.Common.{IfErr, subst, sym}
use Rattle.plan_errors.specs.Output.{Refuses}
use Rattle.plan_print.specs.Sheets.{HidesSheet}
use Rattle.plan_print.specs.declared.sheets.Sheet.{Sheet}
use Rattle.plan_print.proofs.sheets.schedule_sheet.Goals as goal

pub returns-in-Events-clause-refused : goal.returns-in-Events-clause-refused
returns-in-Events-clause-refused c =
    let a = c.args in
    subst (λ (s : Sheet). IfErr c.events_text.result (Refuses (HidesSheet s a.plan.now a.made.now.schedule.starts.items)))
    (sym c.in-Events.is) c.events_text.ensures.refused
