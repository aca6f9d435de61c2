use Rattle.plan_desk.proofs.FileLemmas.{passed_on}
use Rattle.plan_desk.proofs.plan_files.lagged_body.Goals as goal

pub returns-in_err-project-clause-blamed : goal.returns-in_err-project-clause-blamed
returns-in_err-project-clause-blamed c =
    passed_on c.from_residual.result c.in_err-project.field-0.0 _ c.from_residual.ensures.1
    (λ blamed has. c.in_err-project.ensures.blamed blamed has.says.0 has.says.1)

pub returns-in_err-set_lags-clause-blamed : goal.returns-in_err-set_lags-clause-blamed
returns-in_err-set_lags-clause-blamed c =
    passed_on c.from_residual-in_err-set_lags.result c.in_err-set_lags.field-0.0 _ c.from_residual-in_err-set_lags.ensures.1
    (λ blamed has. c.in_err-set_lags.ensures.blamed blamed (has.takes c.in_ok-project.project c.in_ok-project.ensures.said))
