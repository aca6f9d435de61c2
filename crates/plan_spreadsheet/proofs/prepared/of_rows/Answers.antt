use Rattle.std.proofs.Common.{map, ap}
use Rattle.plan_table.specs.Csv.{row_of}
use Rattle.plan_table.specs.Overrides.{override_of}
use Rattle.plan_spreadsheet.specs.Options.{options_of}
use Rattle.plan_spreadsheet.proofs.PreparedLemmas.{list_made, no_list}
use Rattle.plan_spreadsheet.proofs.prepared.of_rows.Goals as goal

pub returns-clause-list : goal.returns-clause-list
returns-clause-list c =
    list_made (options_of c.args.options.now) (map override_of c.args.overrides.now) c.args.encoding (map row_of c.args.rows.now)
    (map row_of c.in_ok-new.new.items) (map row_of c.deref.result.now) c.in_ok-text.text c.deref-2.result.now
    c.in_ok-plain.plain c.of_file.result c.in_ok-check_headers.ensures.has (ap (map row_of) c.deref.ensures.value)
    c.in_ok-new.ensures c.in_ok-text.ensures.text c.deref-2.ensures.value c.in_ok-plain.ensures.plain c.of_file.ensures
