use Rattle.std.proofs.Common.{◌≡◌, ◌≤◌, take}
use Rattle.std.specs.List.{sum_by}
use Rattle.plan_table.specs.Rows.{lead}
use Rattle.plan_table.proofs.rows.characters.Given as goal

-- the characters so far
abbrev pub invariant-loop-byte : goal.invariant-loop-byte
invariant-loop-byte l = (l.count ≡ sum_by lead (take l.byte-index l.text)) × (l.count ≤ l.byte-index)
