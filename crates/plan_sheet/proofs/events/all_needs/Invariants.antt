use Rattle.std.proofs.Common.{◌≡◌, map}
use Rattle.std.specs.List.{range_with_len}
use Rattle.plan_sheet.specs.PlanEvents.{needs_of}
use Rattle.plan_sheet.proofs.events.all_needs.Given as goal

-- the amounts of the activities so far
abbrev pub invariant-loop-k : goal.invariant-loop-k
invariant-loop-k l = map (λ row. row.now) l.needs.items ≡ map (needs_of l.instance) (range_with_len 1 l.k)
