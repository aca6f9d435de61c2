use Rattle.plan_copies.proofs.SettleLemmas.{settled_closed, settled_which}
use Rattle.plan_copies.proofs.settle.settle_from.Goals as goal

pub returns-clause-closed : goal.returns-clause-closed
returns-clause-closed g c =
    settled_closed c.check_office_from-done.result.0 c.check_office_from-done.result.1
    c.settled.result c.settled.ensures

pub returns-clause-which : goal.returns-clause-which
returns-clause-which g c =
    settled_which c.check_office_from-done.result.0 c.check_office_from-done.result.1
    c.settled.result c.settled.ensures c.check_office_from-done.ensures.which
