use Rattle.plan_weekfile.proofs.WeekLemmas.{given_made}
use Rattle.plan_weekfile.proofs.listed.given_week.Goals as goal

pub returns-clause-listed : goal.returns-clause-listed
returns-clause-listed c =
    given_made c.args.given.now c.args.now c.args.text.now c.in-Ok.listed c.with_capacities.result c.in_ok-capacities.capacities
    c.in-Ok.ensures.listed c.in_ok-capacities.ensures.made c.with_capacities.ensures.rest c.with_capacities.ensures.capacities
