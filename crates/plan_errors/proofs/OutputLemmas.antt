-- Outputs.
use Rattle.std.proofs.Common.{◌≡◌, ℕ, List, Option, Result, Ok, Err}
use Rattle.plan_errors.specs.Output.{Sends, Writes}
use Rattle.plan_errors.specs.declared.fault.CliFault.{CliFault}
use Rattle.plan_errors.specs.declared.fault.CliFault.TheVariants as cli

-- a text that is sent is written
pub sent_writes : (IsText IsLine : List ℕ → Type 0) (text : List ℕ) (taken after : Option (List ℕ))
    (r : Result (Unit {0}) CliFault)
    → IsText text → Sends text taken after r → Writes IsText IsLine taken after r
sent_writes IsText IsLine text taken after (Ok u) is sent = (text, is, sent)
sent_writes IsText IsLine text taken after (Err cli.Output) is (n, part, took) = (text, n, is, part, took)
sent_writes IsText IsLine text taken after (Err (cli.Refused refusal)) is sent = absurd sent
sent_writes IsText IsLine text taken after (Err cli.Memory) is sent = absurd sent
sent_writes IsText IsLine text taken after (Err (cli.Input unread)) is sent = absurd sent
