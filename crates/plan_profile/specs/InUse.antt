-- The state of a profile in contracts: its capacities, and the amounts in use. See "Schedules" in
-- docs/definitions.md.
use Rattle.std.specs.Prelude.{ℕ, List, length}
use Rattle.plan_profile.specs.Steps.{lists, amount}
use Rattle.plan_profile.specs.declared.profile.Profile.{Profile}

-- the capacities of the resources
unfoldable pub capacities : Profile → List ℕ
capacities p = p.caps.items

-- the amount of the resource at index k that is in use at instant t
unfoldable pub in_use : Profile → ℕ → ℕ → ℕ
in_use p t k =
    amount p.changes.items (lists (length p.caps.items) p.changes.items p.rows.items) t k
