use Rattle.plan_weekverdict.proofs.PinLemmas.{over_found, over_none}
use Rattle.plan_weekverdict.proofs.pins.first_over.Goals as goal

pub returns-clause-some : goal.returns-clause-some
returns-clause-some c =
    over_found c.args.week.now c.in_ok-pinned.pinned c.args.starts.now c.first_overload.result c.in_ok-pinned.ensures c.requires c.first_overload.ensures.some

pub returns-clause-none : goal.returns-clause-none
returns-clause-none c =
    over_none c.args.week.now c.in_ok-pinned.pinned c.args.starts.now c.first_overload.result c.in_ok-pinned.ensures c.requires c.first_overload.ensures.none
