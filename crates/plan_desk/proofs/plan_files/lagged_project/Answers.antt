use Rattle.std.proofs.Common.{map, sym, subst}
use Rattle.std.proofs.lemmas.Result.{IfErr-weaker}
use Rattle.plan_psplib.specs.Project.{SaysProject}
use Rattle.plan_rows.specs.Books.{lag_in}
use Rattle.plan_desk.specs.PlanValues.{TakesLags}
use Rattle.plan_desk.proofs.plan_files.lagged_project.Goals as goal

pub returns-clause-blamed : goal.returns-clause-blamed
returns-clause-blamed c =
    IfErr-weaker c.stored_project.result _ _
    (λ fault told blamed has. told blamed (record {
      says = (has.says.0, subst (λ file. SaysProject file has.says.0) (sym c.as_slice.ensures.value) has.says.1);
      takes = λ p says.
          subst (λ lags. TakesLags p (map lag_in lags)) (sym c.as_slice-2.ensures.value)
          (has.takes p (subst (λ file. SaysProject file p) c.as_slice.ensures.value says));
    }))
    c.stored_project.ensures.blamed
