use Rattle.plan_rows.specs.Tables.{plan_kept}
use Rattle.plan_rows.specs.RowTests.{HasHead}
use Rattle.plan_rows.proofs.RowTestLemmas.{plan_read, tells_true}
use Rattle.plan_rows.proofs.row_tests.rows.read_row.Goals as goal

pub returns : goal.returns
returns c =
    plan_read (plan_kept c.args.row.now) c.read_file.result (tells_true (HasHead (plan_kept c.args.row.now)) c.if-not-has_head.false c.has_head.ensures)
    (rw (c.as_str.ensures.value, c.as_slice.ensures.value) at c.read_file.ensures)
