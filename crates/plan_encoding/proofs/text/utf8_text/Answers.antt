use Rattle.std.proofs.Common.{◌∙◌, IsUtf8, encode_utf8_all, is_some, ap, sym, subst}
use Rattle.std.proofs.lemmas.Str.{IsUtf8-string_bytes}
use Rattle.plan_encoding.specs.Encodings.{chars_in}
use Rattle.plan_encoding.proofs.EncodingLemmas.{utf8_of-same, reads_utf16}
use Rattle.plan_encoding.proofs.text.utf8_text.Goals as goal

pub returns-in-None-clause-text : goal.returns-in-None-clause-text
returns-in-None-clause-text c =
    utf8_of-same c.args.bytes.now (c.encoding_of-encoding.ensures.utf8.0 (c.in_ok-decode.ensures.none.0 (ap is_some c.in-None.is)))

pub returns-in-None-clause-utf16 : goal.returns-in-None-clause-utf16
returns-in-None-clause-utf16 c =
    reads_utf16 c.args.bytes.now c.args.bytes.now
    (utf8_of-same c.args.bytes.now (c.encoding_of-encoding.ensures.utf8.0 (c.in_ok-decode.ensures.none.0 (ap is_some c.in-None.is))))

pub returns-in-Some-clause-valid : goal.returns-in-Some-clause-valid
returns-in-Some-clause-valid c = subst (λ v. IsUtf8 v.items) (sym c.into_bytes.ensures.value) (IsUtf8-string_bytes c.in-Some.text)

pub returns-in-Some-clause-utf16 : goal.returns-in-Some-clause-utf16
returns-in-Some-clause-utf16 c =
    reads_utf16 c.args.bytes.now c.into_bytes.result.items
    (ap (λ v. v.items) c.into_bytes.ensures.value
    ∙ (rw c.in-Some.is at c.in_ok-decode.ensures.value)
    ∙ ap (λ e. encode_utf8_all (chars_in e c.args.bytes.now)) c.encoding_of-encoding.ensures.value)
