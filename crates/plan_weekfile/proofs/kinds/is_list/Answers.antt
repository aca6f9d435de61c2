use Rattle.plan_weekfile.proofs.KindLemmas.{kind_told}
use Rattle.plan_weekfile.proofs.kinds.is_list.Goals as goal

pub returns-clause-known : goal.returns-clause-known
returns-clause-known c =
    kind_told c.args.text.now c.utf8-2.result.now c.in_ok-plain.plain c.in_ok-kind.kind c.is_activities.result
    c.in_ok-plain.ensures.plain c.utf8-2.ensures c.in_ok-kind.ensures.kind c.is_activities.ensures
