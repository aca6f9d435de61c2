use Rattle.std.proofs.Common.{◌≡◌, ◌∷◌, [], length, ◌∙◌, arith}
use Rattle.std.proofs.lemmas.Str.{IsUtf8-string_bytes}
use Rattle.plan_store.proofs.UntrustedRowLemmas.{found_is, shape}
use Rattle.plan_store.proofs.untrusted_rows.PlanRecordTryFromRow.try_from_row.Goals as goal

pub returns : goal.returns
returns c =
    let row = c.args.row.now in
    let size : length row ≡ 7 = omega (arith, c.column_count.ensures, c.if-column_count-ne7.false) in
    let owner = found_is _ _ _ _ c.in-Some.is c.in_ok-desk.ensures in
    let kind = c.in-Some-try_plan_kind.ensures in
    let file = found_is _ _ _ _ c.in-Some-2.is c.in_ok-name.ensures in
    let texts = found_is _ _ _ _ c.in-Some-3.is c.in_ok-start.ensures in (
      shape row 7 size ∙ (λ i. owner.0 i ∷ owner.1 i ∷ kind i ∷ file.0 i ∷ file.1 i ∷ texts.0 i ∷ texts.1 i ∷ []),
      (IsUtf8-string_bytes c.in-Some.desk, IsUtf8-string_bytes c.in-Some-2.name, IsUtf8-string_bytes c.in-Some-3.start, IsUtf8-string_bytes c.in-Some-3.days),
    )
