use Rattle.std.proofs.Common.{◌∙◌, ℕ, Option, ap}
use Rattle.plan_week.specs.declared.week.State.{State}
use Rattle.plan_week.specs.Overloads.{held_from, settled_start}
use Rattle.plan_week.proofs.overload.held_by.Goals as goal

pub returns-clause-value : goal.returns-clause-value
returns-clause-value c =
    let week = c.args.week.now in
    c.held_from.ensures.value
    ∙ ap (λ (o : Option ℕ). held_from week c.args.instant c.args.resource c.args.activity o)
    (c.settled_start-start.ensures ∙ ap (λ (s : State). settled_start week.today s) c.state_of.ensures)
