use Rattle.std.proofs.Common.{ℕ, List, subst}
use Rattle.std.proofs.lemmas.Result.{IfOk-weaker}
use Rattle.plan_holidays.specs.HolidayText.{AreHolidays, AreExactly, AreThoseOf, lines}
use Rattle.plan_holidays.proofs.ExactLemmas.{exactly}
use Rattle.plan_holidays.proofs.holidays.parse_holidays.Goals as goal

pub returns-clause-exact : goal.returns-clause-exact
returns-clause-exact c =
    let body = c.without_mark.result.now in
    IfOk-weaker c.days_in.result (λ days. AreHolidays (lines body) days.items) (λ days. AreThoseOf c.args.text.now days.items)
    (λ days read. subst (λ (text : List ℕ). AreExactly (lines text) days.items) c.without_mark.ensures (exactly (lines body) days.items read.named))
    c.days_in.ensures.named
