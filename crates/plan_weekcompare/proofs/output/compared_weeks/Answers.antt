use Rattle.plan_weekcompare.specs.Shown.{shown_starts}
use Rattle.plan_weekcompare.proofs.OutputLemmas.{shows_both}
use Rattle.plan_weekcompare.proofs.output.compared_weeks.Goals as goal

pub returns-clause-shown : goal.returns-clause-shown
returns-clause-shown c =
    let before = c.in_ok-before.before in
    let after = c.in_ok-after.after in
    shows_both c.args.order.now c.args.old c.args.new (shown_starts before.listed before.starts.items) (shown_starts after.listed after.starts.items)
    c.in_ok-weeks_text.field-0.items c.in_ok-before.ensures.schedule c.in_ok-after.ensures.schedule c.in_ok-weeks_text.ensures
