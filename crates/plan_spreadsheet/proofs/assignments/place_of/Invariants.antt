use Rattle.std.proofs.Common.{◌≡◌, map, drop}
use Rattle.plan_table.specs.Header.{head_of}
use Rattle.plan_table.specs.Settlement.{body_of}
use Rattle.plan_spreadsheet.specs.Assignments.{place_from}
use Rattle.plan_spreadsheet.proofs.assignments.place_of.Given as goal

-- the column is among those that are left
abbrev pub invariant-loop-k : goal.invariant-loop-k
invariant-loop-k l = place_from (body_of l.body) l.k (map head_of (drop l.k l.heads)) ≡ place_from (body_of l.body) 0 (map head_of l.heads)
