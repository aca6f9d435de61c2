use Rattle.std.proofs.Common.{◌≡◌, ◌≤◌, take}
use Rattle.std.specs.List.{sum_by}
use Rattle.plan_table.specs.Header.{resource_count}
use Rattle.plan_table.proofs.header.resources_in.Given as goal

-- the resources so far
abbrev pub invariant-loop-head : goal.invariant-loop-head
invariant-loop-head l = (l.count ≡ sum_by (λ h. resource_count h.column) (take l.head-index l.heads)) × (l.count ≤ l.head-index)
