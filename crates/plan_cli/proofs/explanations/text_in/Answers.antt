use Rattle.std.proofs.Common.{ap, ◌∙◌}
use Rattle.plan_formats.specs.TableFormats.{format_text}
use Rattle.plan_formats.specs.Tables.{Table}
use Rattle.plan_cli.proofs.explanations.text_in.Goals as goal

pub returns-clause-text : goal.returns-clause-text
returns-clause-text c = (
  c.in_ok-code.code,
  c.in_ok-code.carried,
  c.in_ok-code.ensures.codes,
  c.in_ok-format_table.ensures.text ∙ ap (λ (t : Table). format_text c.args.format t) c.in_ok-table.ensures,
)
