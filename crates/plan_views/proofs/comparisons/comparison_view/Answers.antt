use Rattle.std.proofs.lemmas.Result.{IfOk-weaker}
use Rattle.plan_formats.specs.Tables.{table_of}
use Rattle.plan_views.specs.Plans.{plan_of}
use Rattle.plan_views.proofs.ReportLemmas.{comparison_text}
use Rattle.plan_views.proofs.comparisons.comparison_view.Goals as goal

pub returns-clause-value : goal.returns-clause-value
returns-clause-value c = IfOk-weaker c.comparison.result _ _ (λ table shown. record {
  verdict_a = c.in_ok-verdict_a.verdict_a;
  first_a = c.in_ok-verdict_a.ensures;
  verdict_b = c.in_ok-verdict_b.verdict_b;
  first_b = c.in_ok-verdict_b.ensures;
  shown = shown;
}) c.comparison.ensures

pub returns-clause-text : goal.returns-clause-text
returns-clause-text c = IfOk-weaker c.comparison.result _ _ (λ table is. comparison_text (plan_of c.args.plan) c.args.a.now c.args.b.now (table_of table) is) (returns-clause-value c)
