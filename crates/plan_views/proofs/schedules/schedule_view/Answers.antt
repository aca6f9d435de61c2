use Rattle.std.proofs.Common.{rules, ap, ◌∙◌}
use Rattle.plan_formats.specs.TableText.{text_of}
use Rattle.plan_views.specs.Plans.{plan_of}
use Rattle.plan_views.proofs.TextLemmas.{schedule_text}
use Rattle.plan_views.proofs.schedules.schedule_view.Goals as goal

pub returns-clause-value : goal.returns-clause-value
returns-clause-value c = search rules

pub returns-clause-text : goal.returns-clause-text
returns-clause-text c = ap text_of (returns-clause-value c) ∙ schedule_text (plan_of c.args.plan) c.args.starts.now c.args.makespan
