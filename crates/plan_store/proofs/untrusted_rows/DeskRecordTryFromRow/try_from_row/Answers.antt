use Rattle.std.proofs.Common.{◌≡◌, ◌∷◌, [], length, ◌∙◌, arith}
use Rattle.std.proofs.lemmas.Str.{IsUtf8-string_bytes}
use Rattle.plan_store.proofs.UntrustedRowLemmas.{found_is, shape}
use Rattle.plan_store.proofs.untrusted_rows.DeskRecordTryFromRow.try_from_row.Goals as goal

pub returns : goal.returns
returns c =
    let row = c.args.row.now in
    let size : length row ≡ 3 = omega (arith, c.column_count.ensures, c.if-column_count-ne3.false) in
    let desk = found_is _ _ _ _ c.in-Some.is c.in_ok-desk.ensures in
    let digest = found_is _ _ _ _ c.in-Some-2.is c.in_ok-digest.ensures in
    let next = found_is _ _ _ _ c.in-Some-3.is c.in_ok-next.ensures in
    (shape row 3 size ∙ (λ i. desk i ∷ digest.0 i ∷ next i ∷ []), (IsUtf8-string_bytes c.in-Some.desk, digest.1))
