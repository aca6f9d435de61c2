use Rattle.std.proofs.Common.{◌≡◌, ◌∷◌, [], length, ◌∙◌, arith}
use Rattle.std.proofs.lemmas.Str.{IsUtf8-string_bytes}
use Rattle.plan_store.proofs.UntrustedRowLemmas.{found_is, shape}
use Rattle.plan_store.proofs.untrusted_rows.BindRecordTryFromRow.try_from_row.Goals as goal

pub returns : goal.returns
returns c =
    let row = c.args.row.now in
    let size : length row ≡ 4 = omega (arith, c.column_count.ensures, c.if-column_count-ne4.false) in
    let owner = found_is _ _ _ _ c.in-Some.is c.in_ok-desk.ensures in
    let place = found_is _ _ _ _ c.in-Some-2.is c.in_ok-place.ensures in
    let code = found_is _ _ _ _ c.in-Some-3.is c.in_ok-code.ensures in
    (shape row 4 size ∙ (λ i. owner.0 i ∷ owner.1 i ∷ place i ∷ code i ∷ []), (IsUtf8-string_bytes c.in-Some.desk, IsUtf8-string_bytes c.in-Some-3.code))
