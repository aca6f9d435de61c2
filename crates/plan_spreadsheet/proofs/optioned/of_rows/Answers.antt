use Rattle.std.proofs.Common.{map, ap, refl}
use Rattle.plan_table.specs.Csv.{row_of}
use Rattle.plan_table.specs.Overrides.{override_of}
use Rattle.plan_spreadsheet.specs.Options.{options_of}
use Rattle.plan_spreadsheet.proofs.OptionedLemmas.{list_made}
use Rattle.plan_spreadsheet.proofs.optioned.of_rows.Goals as goal

pub returns-clause-list : goal.returns-clause-list
returns-clause-list c =
    list_made (options_of c.args.options.now) (map override_of c.args.overrides.now) c.args.encoding (map row_of c.args.rows.now)
    (map row_of c.in_ok-new.new.items) (map row_of c.deref.result.now) c.in_ok-text.text _
    c.in_ok-check_headers.ensures.has (ap (map row_of) c.deref.ensures.value) c.in_ok-new.ensures c.in_ok-text.ensures.text refl
