use Rattle.std.proofs.Common.{rules, ap, ◌∙◌, map, codes}
use Rattle.plan_formats.specs.TableText.{text_of}
use Rattle.plan_views.proofs.TextLemmas.{lines_text_of}
use Rattle.plan_views.proofs.line_lists.name_view.Goals as goal

pub returns-clause-value : goal.returns-clause-value
returns-clause-value c = search rules

pub returns-clause-text : goal.returns-clause-text
returns-clause-text c = ap text_of (returns-clause-value c) ∙ lines_text_of (codes "name") (map (λ name. name.items) c.args.names.now)
