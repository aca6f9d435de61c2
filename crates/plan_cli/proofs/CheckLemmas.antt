-- The verdict on starts and what `check` shows for it.
use Rattle.std.proofs.Common.{◌≡◌, ℕ, List, [], refl}
use denote.Ref.{Bor}
use Rattle.plan_sgs.specs.declared.verdict.Verdict.{Verdict}
use Rattle.plan_views.specs.LineLists.{verdict_view_of}
use Rattle.plan_cli.specs.CheckRun.{IsVerdictOn, rows_text, sentence_of}
use Rattle.plan_cli.specs.Tasks.{ShowsTask}
use Rattle.plan_cli.specs.TaskViews.{IsVerdictView, IsViewOf}
use Rattle.plan_cli.specs.Views.{View, table}
use Rattle.plan_documents.specs.declared.documents.Plan.{Plan}
use Rattle.plan_documents.specs.declared.documents.Subject.{Subject}
use Rattle.plan_cli.specs.declared.tasks.Rows.{Rows}
use Rattle.plan_cli.specs.declared.tasks.Rows.TheVariants as rows
use Rattle.plan_cli.specs.declared.tasks.Task.TheVariants as task
use Rattle.plan_cli.proofs.ViewTextLemmas.{view_text}

-- the view of the first verdict on the starts in a text
pub verdict_shown : (listed : List ℕ) (p : Plan) (verdict : Verdict) (view : View)
    → IsVerdictOn listed p verdict → view ≡ table (verdict_view_of (sentence_of p verdict)) → IsVerdictView listed p view
verdict_shown listed p verdict view is shown = record {
  starts = is.starts;
  said = is.said;
  verdict = verdict;
  first = is.first;
  shown = shown;
}

-- the text of a check with these rows
pub check_shown : (r : Rows) (starts : Bor (List ℕ)) (s : Subject) (file : List ℕ) (view : View)
    → IsViewOf (task.Check starts s) file view → ShowsTask r (task.Check starts s) file (rows_text r view)
check_shown rows.Plain starts s file view is = view_text (task.Check starts s) file view is
check_shown rows.Named starts s file view is = (view, is, refl)
check_shown rows.Listed starts s file view is = (view, is, ([], refl, refl))
check_shown (rows.In format) starts s file view is = (view, is, ([], refl, refl))
