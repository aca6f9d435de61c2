use Rattle.std.proofs.Common.{◌≡◌, [], drop}
use Rattle.plan_spreadsheet.specs.Waits.{spaced_from}
use Rattle.plan_spreadsheet.proofs.waits.spaced.Given as goal

-- the bytes that are left, behind those so far, give all bytes
abbrev pub invariant-loop-byte : goal.invariant-loop-byte
invariant-loop-byte l = spaced_from l.text.items (drop l.byte-index l.cell) ≡ spaced_from [] l.cell
