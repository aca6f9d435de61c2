use Rattle.std.proofs.Common.{◌∙◌, sym}
use Rattle.std.specs.Prelude.{string_bytes}
use Rattle.plan_rows.specs.Rules.{HasName}
use Rattle.plan_rows.proofs.RowTestLemmas.{tells_same, tells_true}
use Rattle.plan_rows.proofs.row_tests.rows.has_head.Goals as goal

pub returns : goal.returns
returns c =
    let named : HasName c.args.row.now.kind (string_bytes c.args.row.now.name) =
    tells_true (HasName c.args.row.now.kind (string_bytes c.args.row.now.name)) c.if-not-has_name.false (rw c.as_str.ensures.value at c.has_name.ensures) in
    tells_same (λ cal. (sym c.is_number.ensures ∙ c.if-not-is_number.false, named, cal)) (λ head. head.2) c.has_calendar.result
    (rw (c.as_str-2.ensures.value, c.as_str-3.ensures.value) at c.has_calendar.ensures)
