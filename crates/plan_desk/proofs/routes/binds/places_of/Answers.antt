use Rattle.plan_desk.proofs.FoundFileLemmas.{blamed_on, unread_project}
use Rattle.plan_desk.proofs.routes.binds.places_of.Goals as goal

pub returns-in_err-project-in-Project-clause-blamed : goal.returns-in_err-project-in-Project-clause-blamed
returns-in_err-project-in-Project-clause-blamed c =
    let at = c.in_err-project-in-Project in
    blamed_on c.from_residual.result at.field-0.0 _ c.from_residual.ensures
    (λ is. unread_project c.args.plan.now c.deref.result.now c.in-Project.is c.deref.ensures.value (at.ensures.blamed is))
