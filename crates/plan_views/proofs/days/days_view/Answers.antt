use Rattle.std.proofs.Common.{rules}
use Rattle.plan_formats.specs.Tables.{table_of}
use Rattle.plan_views.specs.Plans.{plan_of}
use Rattle.plan_views.proofs.DayLemmas.{calendar_text}
use Rattle.plan_views.proofs.days.days_view.Goals as goal

pub returns-clause-value : goal.returns-clause-value
returns-clause-value c = search rules

pub returns-clause-text : goal.returns-clause-text
returns-clause-text c = calendar_text c.args.calendar.now (plan_of c.args.plan) c.args.starts.now (table_of c.plain_table.result) (returns-clause-value c)
