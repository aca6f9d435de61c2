use Rattle.std.proofs.Common.{rules, [], ap, ◌∙◌}
use Rattle.plan_views.specs.Charts.{named_text_of}
use Rattle.plan_views.specs.Plans.{plan_of}
use Rattle.plan_views.proofs.ChartLemmas.{chart_text_is}
use Rattle.plan_views.proofs.charts.chart_view.Goals as goal

pub returns-clause-value : goal.returns-clause-value
returns-clause-value c = search rules

pub returns-clause-text : goal.returns-clause-text
returns-clause-text c = ap (named_text_of []) (returns-clause-value c) ∙ chart_text_is (plan_of c.args.plan) c.args.starts.now c.args.makespan
