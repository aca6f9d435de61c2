use Rattle.std.proofs.Common.{refl}
use Rattle.plan_documents.proofs.list_options.prepare.Goals as goal

pub returns-in_ok-list-in-Some-clause-text : goal.returns-in_ok-list-in-Some-clause-text
returns-in_ok-list-in-Some-clause-text c =
    rw c.in-Some.is (c.in_ok-list-in-Some.list, c.in_ok-list-in-Some.ensures.plain, refl)
