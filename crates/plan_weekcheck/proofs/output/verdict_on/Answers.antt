use Rattle.std.proofs.Common.{ℕ, List, sym, subst}
use Rattle.plan_weekverdict.specs.Starts.{AreAllStarts}
use Rattle.plan_weekverdict.specs.Verdicts.{HasSettled, IsWeekVerdict}
use Rattle.plan_weekcheck.proofs.output.verdict_on.Goals as goal

pub check_week-requires : goal.check_week-requires
check_week-requires c = subst (λ (xs : List ℕ). HasSettled c.args.listed.now.week xs) (sym c.deref-2.ensures.value) c.in_ok-all.ensures.settled

pub returns-clause-verdict : goal.returns-clause-verdict
returns-clause-verdict c =
    let week = c.args.listed.now.week in (
      c.in_ok-given.given.items,
      c.in_ok-all.all.items,
      c.in_ok-given.ensures.said,
      subst (λ (xs : List ℕ). AreAllStarts week xs c.in_ok-all.all.items) c.deref.ensures.value c.in_ok-all.ensures.all,
      subst (λ (xs : List ℕ). IsWeekVerdict week xs c.in_ok-check_week.field-0) c.deref-2.ensures.value c.in_ok-check_week.ensures,
    )
