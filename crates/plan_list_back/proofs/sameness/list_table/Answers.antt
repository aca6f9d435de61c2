use Rattle.std.proofs.Common.{map}
use Rattle.plan_table.specs.Overrides.{override_of}
use Rattle.plan_spreadsheet.specs.Options.{options_of}
use Rattle.plan_list_back.proofs.ListBackLemmas.{read_as}
use Rattle.plan_list_back.proofs.sameness.list_table.Goals as goal

pub returns : goal.returns
returns c = record {
  read = read_as (options_of c.args.options.now) (map override_of c.args.overrides.now) c.args.bytes.now c.utf8-2.result.now c.in_ok-plain.plain
      c.in_ok-table.table c.in_ok-plain.ensures c.utf8-2.ensures c.in_ok-table.ensures;
}
