use Rattle.std.proofs.Common.{map}
use Rattle.plan_table.specs.Csv.{row_of}
use Rattle.plan_spreadsheet.proofs.SpellingLemmas.{unwritten}
use Rattle.plan_spreadsheet.proofs.grid.write_rows.Goals as goal

pub returns-then-not-right-clause-errors : goal.returns-then-not-right-clause-errors
returns-then-not-right-clause-errors c =
    unwritten (map row_of c.args.rows.now) c.deref.result.now c.in_ok-text.text.items c.in_ok-right.right
    c.deref.ensures.value c.in_ok-text.ensures c.if-not-right.true c.in_ok-right.ensures.no
