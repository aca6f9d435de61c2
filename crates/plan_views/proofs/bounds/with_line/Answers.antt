use Rattle.std.proofs.Common.{rules, ap, ◌∙◌}
use Rattle.plan_formats.specs.TableLines.{line_of}
use Rattle.plan_formats.specs.TableText.{text_of}
use Rattle.plan_formats.specs.Tables.{table_of}
use Rattle.plan_views.proofs.TextLemmas.{bound_text}
use Rattle.plan_views.proofs.bounds.with_line.Goals as goal

pub returns-clause-value : goal.returns-clause-value
returns-clause-value c = search rules

pub returns-clause-text : goal.returns-clause-text
returns-clause-text c = ap text_of (returns-clause-value c) ∙ bound_text (line_of c.args.line) (table_of c.args.table)
