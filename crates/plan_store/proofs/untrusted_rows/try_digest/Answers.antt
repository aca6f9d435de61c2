use Rattle.std.proofs.Common.{ap, sym, ◌∙◌}
use Rattle.std.proofs.lemmas.Bool.{both_ways}
use Rattle.std.proofs.lemmas.Slice.Eq.{bytes_eq-Decides}
use Rattle.std.specs.Result.{is_err}
use Rattle.hex.specs.Hex.{encode_lower}
use Rattle.plan_store.specs.Rows.{text_in}
use Rattle.plan_store.proofs.UntrustedRowLemmas.{decodes}
use Rattle.plan_store.proofs.untrusted_rows.try_digest.Goals as goal

pub returns-then-is_err : goal.returns-then-is_err
returns-then-is_err c digest good same =
    let text = ap text_in (sym c.in-Some.ensures ∙ same) in
    let did = decodes c.in-Some.text.now digest good text c.decode_to_slice.result c.decode_to_slice.new.out c.decode_to_slice.ensures.value in
    let fails = sym c.if-is_err.true ∙ c.is_err.ensures.value ∙ ap is_err did.0 in
    cc

pub returns-else-eq : goal.returns-else-eq
returns-else-eq c digest good same =
    let text = ap text_in (sym c.in-Some.ensures ∙ same) in
    let did = decodes c.in-Some.text.now digest good text c.decode_to_slice.result c.decode_to_slice.new.out c.decode_to_slice.ensures.value in
    let alike = c.as_slice.ensures ∙ c.in_ok-digits.ensures.digits ∙ ap encode_lower did.1 ∙ sym text in
    let equal = c.eq.ensures ∙ (bytes_eq-Decides c.as_slice.result.now c.in-Some.text.now).1 alike in
    both_ways c.eq.result c.if-eq.false equal
