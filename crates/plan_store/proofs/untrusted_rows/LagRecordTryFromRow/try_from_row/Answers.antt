use Rattle.std.proofs.Common.{◌≡◌, ◌∷◌, [], length, ◌∙◌, arith}
use Rattle.std.proofs.lemmas.Str.{IsUtf8-string_bytes}
use Rattle.plan_store.proofs.UntrustedRowLemmas.{found_is, shape}
use Rattle.plan_store.proofs.untrusted_rows.LagRecordTryFromRow.try_from_row.Goals as goal

pub returns : goal.returns
returns c =
    let row = c.args.row.now in
    let size : length row ≡ 5 = omega (arith, c.column_count.ensures, c.if-column_count-ne5.false) in
    let owner = found_is _ _ _ _ c.in-Some.is c.in_ok-desk.ensures in
    let source = c.in-Some-try_small.ensures in
    let target = c.in-Some-try_small-2.ensures in
    let lag = found_is _ _ _ _ c.in-Some-2.is c.in_ok-lag.ensures in
    (shape row 5 size ∙ (λ i. owner.0 i ∷ owner.1 i ∷ source.0 i ∷ target.0 i ∷ lag i ∷ []), (IsUtf8-string_bytes c.in-Some.desk, source.1, target.1))
