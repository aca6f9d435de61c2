use Rattle.std.proofs.Common.{Option, sym, subst}
use Rattle.std.specs.Option.{IfSome, IfNone}
use Rattle.plan_weekverdict.specs.declared.verdict.WeekVerdict.{WeekVerdict}
use Rattle.plan_weekverdict.specs.Verdicts.{HasNoMiss, HasNoBroken, IsWeekVerdict}
use Rattle.plan_weekverdict.proofs.ArcLemmas.{found_broken, found_unbroken}
use Rattle.plan_weekverdict.proofs.VerdictLemmas.{first_wrong, none_dates, none_arcs}
use Rattle.plan_weekverdict.proofs.check.first_wrong.Goals as goal

pub returns-clause-some : goal.returns-clause-some
returns-clause-some c =
    let week = c.args.week.now in
    let starts = c.args.starts.now in
    subst (λ (o : Option WeekVerdict). IfSome o (IsWeekVerdict week starts)) (sym c.first_of.ensures)
    (first_wrong week starts c.first_miss.result c.first_broken.result c.first_miss.ensures.some c.first_miss.ensures.none
    (found_broken week starts c.first_broken.result c.first_broken.ensures) (found_unbroken week starts c.first_broken.result c.first_broken.ensures))

pub returns-clause-dates : goal.returns-clause-dates
returns-clause-dates c =
    let week = c.args.week.now in
    let starts = c.args.starts.now in
    subst (λ (o : Option WeekVerdict). IfNone o (HasNoMiss week starts)) (sym c.first_of.ensures)
    (none_dates week starts c.first_miss.result c.first_broken.result c.first_miss.ensures.none)

pub returns-clause-arcs : goal.returns-clause-arcs
returns-clause-arcs c =
    let week = c.args.week.now in
    let starts = c.args.starts.now in
    subst (λ (o : Option WeekVerdict). IfNone o (HasNoBroken week starts)) (sym c.first_of.ensures)
    (none_arcs week starts c.first_miss.result c.first_broken.result (found_unbroken week starts c.first_broken.result c.first_broken.ensures))
