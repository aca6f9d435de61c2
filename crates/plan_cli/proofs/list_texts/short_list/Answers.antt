use Rattle.std.proofs.Common.{ℕ, Vec}
use Rattle.std.specs.Global.{Global}
use Rattle.plan_spreadsheet.specs.Options.{options_of}
use Rattle.plan_cli.proofs.ListTextLemmas.{timed_whole, untimed_whole}
use Rattle.plan_cli.proofs.list_texts.short_list.Goals as goal

pub returns-clause-made : goal.returns-clause-made
returns-clause-made g c =
    let a = c.args in
    timed_whole (λ (text : Vec ℕ Global). text.items) c.table_list.result a.origin a.dates a.subject a.options (options_of c.options_in-options.result)
    a.file.now c.in-Ok.table c.requires c.options_in-options.ensures c.in-Ok.ensures.read c.table_list.ensures.made

pub returns-clause-refused : goal.returns-clause-refused
returns-clause-refused g c =
    let a = c.args in
    untimed_whole c.table_list.result a.origin a.dates a.subject a.options (options_of c.options_in-options.result) a.file.now c.in-Ok.table
    c.options_in-options.ensures c.in-Ok.ensures.read c.table_list.ensures.refused
