use Rattle.std.specs.String.{string_bytes}
use Rattle.plan_encoding.proofs.Windows1252Lemmas.{all_text-step, all_text-end}
use Rattle.plan_encoding.proofs.windows_1252.decode_windows_1252.Goals as goal

pub loop-byte-init : goal.loop-byte-init
loop-byte-init c = rw c.in_ok-text.ensures.bytes

pub loop-byte-preserved : goal.loop-byte-preserved
loop-byte-preserved c =
    rw (c.in_ok-push.ensures.bytes, c.char_of.ensures)
    (all_text-step c.args.bytes.now (string_bytes c.loop-byte.text) c.loop-byte.byte-index c.loop-byte-test.true c.loop-byte.invariant)

pub returns : goal.returns
returns c = all_text-end c.args.bytes.now (string_bytes c.loop-byte.text) c.loop-byte.byte-index c.loop-byte-test.false c.loop-byte.invariant
