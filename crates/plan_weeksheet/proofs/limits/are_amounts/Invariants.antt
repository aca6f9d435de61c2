use Rattle.std.proofs.Common.{◌≡◌, drop}
use Rattle.std.specs.Prelude.{nat_le}
use Rattle.std.specs.List.{list_all}
use Rattle.plan_psplib.specs.Tokens.{greatest}
use Rattle.plan_weeksheet.proofs.limits.are_amounts.Given as goal

-- no capacity is above if none of those that are left is
abbrev pub invariant-loop-capacity : goal.invariant-loop-capacity
invariant-loop-capacity l =
    list_all (λ capacity. nat_le capacity greatest) (drop l.capacity-index l.capacities)
    ≡ list_all (λ capacity. nat_le capacity greatest) l.capacities
