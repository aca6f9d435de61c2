use Rattle.plan_rows.proofs.RowTestLemmas.{project_unsaid}
use Rattle.plan_rows.proofs.row_tests.files.read_project.Goals as goal

pub returns : goal.returns
returns c = project_unsaid c.args.body.now c.in-Err.fault c.in-Err.ensures.refused c.in_default.not-Memory
