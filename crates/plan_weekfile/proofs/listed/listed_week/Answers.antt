use Rattle.std.proofs.lemmas.Result.{IfErr-weaker, IfOk-weaker}
use Rattle.plan_documents.proofs.ErrorLemmas.{refuses_as}
use Rattle.plan_errors.specs.Output.{Refuses}
use Rattle.plan_weekfile.specs.Weeks.{IsGivenWeek, IsWeekWith, TellsNoGiven, TellsNoWeek}
use Rattle.plan_weekfile.proofs.WeekLemmas.{given_with, tells_with}
use Rattle.plan_weekfile.proofs.listed.listed_week.Goals as goal

pub returns-in-len1-up-clause-listed : goal.returns-in-len1-up-clause-listed
returns-in-len1-up-clause-listed c =
    IfOk-weaker c.given_week.result (IsGivenWeek c.args.given.now c.args.now c.args.text.now)
    (IsWeekWith c.args.given.now c.args.now c.args.text.now)
    (λ listed is. given_with c.args.given.now c.args.now c.args.text.now listed c.in-len1-up.len_at_least is) c.given_week.ensures.listed

pub returns-in-len1-up-clause-refused : goal.returns-in-len1-up-clause-refused
returns-in-len1-up-clause-refused c =
    IfErr-weaker c.given_week.result (Refuses (TellsNoGiven c.args.given.now c.args.now c.args.text.now))
    (Refuses (TellsNoWeek c.args.given.now c.args.now c.args.text.now))
    (λ e told.
    refuses_as (TellsNoGiven c.args.given.now c.args.now c.args.text.now) (TellsNoWeek c.args.given.now c.args.now c.args.text.now) e
    (λ line tells. tells_with c.args.given.now c.args.now c.args.text.now line c.in-len1-up.len_at_least tells) told)
    c.given_week.ensures.refused
