use Rattle.plan_weekback.proofs.BackLemmas.{another_told, means}
use Rattle.plan_weekback.proofs.back.check_same.Goals as goal

pub returns-then-same_list-clause-same : goal.returns-then-same_list-clause-same
returns-then-same_list-clause-same c =
    means c.args.order.now.capacities.now c.args.order.now.today c.args.reading.now c.args.made.now c.args.listed.now c.in-Ok.other
    c.in-Ok.ensures.week (c.same_list.ensures.yes c.if-same_list.true)

pub returns-in-Ok-clause-refused : goal.returns-in-Ok-clause-refused
returns-in-Ok-clause-refused c =
    another_told c.args.order.now c.args.reading.now c.args.listed.now c.in-Ok.other c.args.made.now c.changed_refusal.result
    c.in-Ok.ensures.week (c.same_list.ensures.no c.if-same_list.false) c.changed_refusal.ensures
