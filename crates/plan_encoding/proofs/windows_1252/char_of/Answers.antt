use Rattle.std.proofs.Common.{arith}
use Rattle.plan_encoding.proofs.Windows1252Lemmas.{windows_1252_char-high, windows_1252_char-below, windows_1252_char-above}
use Rattle.plan_encoding.proofs.windows_1252.char_of.Goals.{in_default-via-then-byte-lt128, in_default-via-else-byte-lt128+else-byte-lt160}
use Rattle.plan_encoding.proofs.windows_1252.char_of.Goals as goal

pub returns-in-128-to-159 : goal.returns-in-128-to-159
returns-in-128-to-159 c = windows_1252_char-high c.args.byte (omega arith) (omega arith)

pub returns-in_default : goal.returns-in_default
returns-in_default c = elim c.in_default.branch [
  | in_default-via-then-byte-lt128 w ↦ windows_1252_char-below c.args.byte (omega arith)
  | in_default-via-else-byte-lt128+else-byte-lt160 w ↦ windows_1252_char-above c.args.byte (omega arith)
]
