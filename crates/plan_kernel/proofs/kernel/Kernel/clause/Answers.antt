use Rattle.std.proofs.Common.{◌∙◌, List, ap, subst}
use Rattle.plan_kernel.specs.Kernels.{State, Kept, IsAmong}
use Rattle.plan_kernel.proofs.kernel.Kernel.clause.Goals as goal

pub returns : goal.returns
returns c =
    let view = ap (λ (s : State). s.known.clauses.items) c.self.view_is in
    subst (λ (xs : List Kept). IsAmong xs c.clause_of.result.now) (c.deref.ensures.value ∙ view) c.clause_of.ensures
