use Rattle.std.proofs.Common.{rules, IfErr}
use Rattle.plan_orlib.proofs.NameLemmas.{mapped}
use Rattle.plan_errors.specs.Output.{Refuses}
use Rattle.plan_cli.specs.DaysRun.{TellsBeyond, TellsDaysFault}
use Rattle.plan_print.specs.Sheets.{IsIcsBeyond}
use Rattle.plan_print.proofs.SheetLemmas.{beyond_told}
use Rattle.plan_print.proofs.events.ics_text.Goals as goal

pub returns-clause-refused : goal.returns-clause-refused
returns-clause-refused c =
    let Beyond = IsIcsBeyond c.args.events.now c.args.plan.now c.args.schedule.now.starts.items c.args.calendar.now in
    mapped c.plan_ics.result c.map_err.result _ (λ told. IfErr told (Refuses (TellsBeyond Beyond)))
    c.map_err.ensures.cases (λ text is. tt)
    (λ fault e is learnt.
    let tells : Refuses (TellsDaysFault fault) e = search rules in
    beyond_told c.plan_ics.result fault e Beyond is c.plan_ics.ensures.beyond tells)
