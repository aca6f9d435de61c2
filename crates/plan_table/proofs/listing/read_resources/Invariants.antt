use Rattle.std.proofs.Common.{◌≡◌, [], map, drop}
use Rattle.plan_table.specs.Header.{head_of}
use Rattle.plan_table.specs.Table.{resource_of}
use Rattle.plan_table.specs.Listing.{resources_at}
use Rattle.plan_table.specs.Overrides.{override_of}
use Rattle.plan_table.proofs.listing.read_resources.Given as goal

-- the columns that are left, behind the resources so far, give all resources
abbrev pub invariant-loop-head : goal.invariant-loop-head
invariant-loop-head l = resources_at (map override_of l.capacities.overrides.now) l.capacities.row.now (map resource_of l.resources.items) (map head_of (drop l.head-index l.heads))
    ≡ resources_at (map override_of l.capacities.overrides.now) l.capacities.row.now [] (map head_of l.heads)
