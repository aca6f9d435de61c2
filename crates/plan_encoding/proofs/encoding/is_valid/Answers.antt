use Rattle.std.proofs.Common.{sym, refl}
use Rattle.std.proofs.lemmas.Str.{is_utf8-from_IsUtf8}
use Rattle.std.specs.Str.{is_utf8}
use Rattle.plan_encoding.proofs.EncodingLemmas.{is_utf8-not}
use Rattle.plan_encoding.proofs.encoding.is_valid.Goals as goal

pub returns-in-Ok-clause-value : goal.returns-in-Ok-clause-value
returns-in-Ok-clause-value c = sym (is_utf8-from_IsUtf8 c.args.bytes.now c.in-Ok.ensures.cases.1)

pub returns-in-Err-clause-value : goal.returns-in-Err-clause-value
returns-in-Err-clause-value c = is_utf8-not c.args.bytes.now (is_utf8 c.args.bytes.now) refl c.in-Err.ensures.cases.0
