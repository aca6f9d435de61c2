use Rattle.std.proofs.Common.{map, sym, ◌∙◌}
use Rattle.plan_table.specs.Overrides.{override_of}
use Rattle.plan_spreadsheet.proofs.ListLemmas.{no_plain_book, plain_decoded}
use Rattle.plan_spreadsheet.proofs.list.plain_list.Goals as goal

pub returns-in-Some-clause-refused : goal.returns-in-Some-clause-refused
returns-in-Some-clause-refused c =
    no_plain_book (map override_of c.args.overrides.now) c.args.bytes.now c.in-Some.book c.workbook_fault.result
    (c.in_ok-readable.ensures.no c.if-readable.false) (sym c.workbook_of.ensures ∙ c.in-Some.is) c.workbook_fault.ensures

pub returns-in_ok-list-in-None-clause-plain : goal.returns-in_ok-list-in-None-clause-plain
returns-in_ok-list-in-None-clause-plain c =
    plain_decoded (map override_of c.args.overrides.now) c.args.bytes.now c.in_ok-list-in-None.list
    (c.in_ok-readable.ensures.no c.if-readable.false) (sym c.workbook_of.ensures ∙ c.in-None.is)
    c.in_ok-list-in-None.ensures.list
