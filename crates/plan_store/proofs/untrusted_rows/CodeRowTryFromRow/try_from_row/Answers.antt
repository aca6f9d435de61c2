use Rattle.std.proofs.Common.{◌≡◌, ◌∷◌, [], length, ◌∙◌, arith}
use Rattle.std.proofs.lemmas.Str.{IsUtf8-string_bytes}
use Rattle.plan_store.proofs.UntrustedRowLemmas.{found_is, shape}
use Rattle.plan_store.proofs.untrusted_rows.CodeRowTryFromRow.try_from_row.Goals as goal

pub returns : goal.returns
returns c =
    let row = c.args.row.now in
    let size : length row ≡ 3 = omega (arith, c.column_count.ensures, c.if-column_count-ne3.false) in
    let code = found_is _ _ _ _ c.in-Some.is c.in_ok-code.ensures in
    let kind = c.in-Some-try_kind.ensures in
    let capacity = found_is _ _ _ _ c.in-Some-2.is c.in_ok-capacity.ensures in
    (shape row 3 size ∙ (λ i. code i ∷ kind i ∷ capacity i ∷ []), IsUtf8-string_bytes c.in-Some.code)
