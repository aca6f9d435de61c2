use Rattle.std.proofs.Common.{◌≡◌, Some, map, rules}
use Rattle.std.proofs.lemmas.Result.{IfOk-weaker}
use Rattle.plan_formats.specs.TableFormats.{format_text}
use Rattle.plan_formats.specs.Tables.{table_of}
use Rattle.plan_table.specs.Names.{name_of}
use Rattle.plan_views.specs.LinkColumns.{links_of}
use Rattle.plan_weekview.specs.DaysOutputs.{days_text}
use Rattle.plan_weekview.proofs.OutputLemmas.{formatted_days}
use Rattle.plan_weekview.proofs.output.formatted.Goals as goal

pub returns : goal.returns
returns c =
    IfOk-weaker c.format_table.result (λ text. text.items ≡ format_text c.args.format (table_of c.in_ok-made.made))
    (λ text. text.items ≡ days_text (Some c.args.format) c.args.listed.now (table_of c.args.table))
    (λ text is.
    formatted_days c.args.format c.args.listed.now (table_of c.args.table) (map name_of c.in_ok-ids.ids.items) (map links_of c.in_ok-links.links.items)
    (table_of c.in_ok-made.made) text.items (search rules) (search rules) (search rules) is)
    c.format_table.ensures.text
