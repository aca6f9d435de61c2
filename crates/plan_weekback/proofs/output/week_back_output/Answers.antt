use Rattle.plan_weekback.specs.Entries.{days_in}
use Rattle.plan_weekback.proofs.OutputLemmas.{list_shown}
use Rattle.plan_weekback.proofs.output.week_back_output.Goals as goal

pub returns-clause-shown : goal.returns-clause-shown
returns-clause-shown g c =
    list_shown c.args.order.now c.args.reading.now (days_in c.args.calendar) c.args.file.now c.text-own.result.now c.in_ok-made.made.items
    c.in_ok-read.read c.in_ok-listed.listed c.in_ok-plan.plan c.in_ok-read.ensures.text c.text-own.ensures c.in_ok-listed.ensures.listed
    c.in_ok-plan.ensures.plan c.in_ok-made.ensures.shown c.in_ok-made.ensures.same
