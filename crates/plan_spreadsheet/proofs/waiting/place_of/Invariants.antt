use Rattle.std.proofs.Common.{◌≡◌, map, drop}
use Rattle.plan_table.specs.Header.{head_of}
use Rattle.plan_table.specs.Entries.{place_from}
use Rattle.plan_spreadsheet.proofs.waiting.place_of.Given as goal

-- the column is among those that are left
abbrev pub invariant-loop-k : goal.invariant-loop-k
invariant-loop-k l = place_from l.kind l.k (map head_of (drop l.k l.heads)) ≡ place_from l.kind 0 (map head_of l.heads)
