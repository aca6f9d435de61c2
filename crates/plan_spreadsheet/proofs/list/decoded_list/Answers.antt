use Rattle.std.proofs.Common.{map}
use Rattle.plan_table.specs.Overrides.{override_of}
use Rattle.plan_spreadsheet.proofs.ListLemmas.{becomes_if, stays_if}
use Rattle.plan_spreadsheet.proofs.list.decoded_list.Goals as goal

pub returns-in_ok-rewriting-in-Some-clause-list : goal.returns-in_ok-rewriting-in-Some-clause-list
returns-in_ok-rewriting-in-Some-clause-list c =
    becomes_if (map override_of c.args.overrides.now) c.args.bytes.now c.utf8-text.result.now c.in_ok-kind.field-0
    c.in-Some.kind c.in_ok-decoded.decoded c.in_ok-rewriting-in-Some.rewriting c.joined.result
    c.utf8-text.ensures c.in_ok-decoded.ensures.text c.in_ok-decoded.ensures.encoding c.in_ok-kind.ensures.kind
    c.in-Some.is c.in_ok-rewriting-in-Some.ensures.text c.joined.ensures

pub returns-in-None-clause-list : goal.returns-in-None-clause-list
returns-in-None-clause-list c =
    stays_if (map override_of c.args.overrides.now) c.args.bytes.now c.utf8-text.result.now c.in_ok-kind.field-0
    c.in_ok-decoded.decoded c.staying.result c.utf8-text.ensures c.in_ok-decoded.ensures.text
    c.in_ok-kind.ensures.kind c.in-None.is c.staying.ensures
