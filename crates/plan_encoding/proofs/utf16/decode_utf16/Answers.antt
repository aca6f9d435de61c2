use Rattle.std.proofs.Common.{◌≡◌, ◌∙◌, ap, arith, string_bytes, encode_utf8_all}
use Rattle.std.specs.Char.Utf16.{utf16_lossy_chars}
use Rattle.plan_encoding.specs.Utf16.{units_of}
use Rattle.plan_encoding.proofs.Utf16Lemmas.{utf16_text-odd, utf16_text-even}
use Rattle.plan_encoding.proofs.utf16.decode_utf16.Goals.{then-bytes-eq1+in_ok-push, else-bytes-eq1}
use Rattle.plan_encoding.proofs.utf16.decode_utf16.Goals as goal

pub returns : goal.returns
returns c =
    let units : string_bytes c.in_ok-text.text ≡ encode_utf8_all (utf16_lossy_chars (units_of c.args.order c.args.bytes.now)) =
    c.in_ok-text.ensures ∙ ap (λ u. encode_utf8_all (utf16_lossy_chars u)) (c.deref.ensures.value ∙ c.in_ok-units.ensures) in
    elim c.if-bytes-eq1.branch [
      | then-bytes-eq1+in_ok-push w ↦
          ap string_bytes w.text-is ∙ w.in_ok-push.ensures.bytes ∙ utf16_text-odd c.args.order c.args.bytes.now (string_bytes c.in_ok-text.text) w.if-bytes-eq1.true units
      | else-bytes-eq1 w ↦
          ap string_bytes w.text-is ∙ utf16_text-even c.args.order c.args.bytes.now (string_bytes c.in_ok-text.text) (omega (arith, w.if-bytes-eq1.false)) units
    ]
