use Rattle.std.proofs.Common.{◌∙◌, ap}
use Rattle.plan_kernel.specs.Literals.{at}
use Rattle.plan_kernel.proofs.InputLemmas.{end_is}
use Rattle.plan_kernel.proofs.feasible.end.Goals as goal

pub returns-clause-value : goal.returns-clause-value
returns-clause-value c =
    end_is c.args.input.now c.args.starts.now c.args.activity c.at.result c.at-2.result c.at.ensures
    (c.at-2.ensures ∙ ap (λ xs. at xs c.args.activity) c.deref.ensures.value)
