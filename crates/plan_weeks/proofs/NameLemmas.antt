-- The activities of a week are the first ones of its list, at most 500.
use Rattle.std.proofs.Common.{◌≡◌, ℕ, ◌≤◌, Bool, List, length, map, take, sym, arith}
use Rattle.std.proofs.lemmas.List.{length-map, take-map, take_all}
use Rattle.plan_table.specs.declared.table.Activity as declared_activity
use Rattle.plan_table.specs.declared.table.Resource as declared_resource
use Rattle.plan_table.specs.Limits.{IsTable}
use Rattle.plan_table.specs.Table.{activity_of, table_of}

-- the first activities
pub those_planned : (activities : List declared_activity.Activity) (n : ℕ) → map activity_of (take n activities) ≡ take n (map activity_of activities)
those_planned activities n = sym (take-map activity_of n activities)

-- all activities
pub all_planned : (activities : List declared_activity.Activity) (n : ℕ) → length activities ≤ n → map activity_of activities ≡ take n (map activity_of activities)
all_planned activities n all = sym (take_all n (map activity_of activities) (omega (arith, all, length-map activities activity_of)))

-- a table has few activities
pub few_planned : (own : Bool) (activities : List declared_activity.Activity) (resources : List declared_resource.Resource)
    → IsTable (table_of own activities resources) → length activities ≤ 500
few_planned own activities resources is = omega (arith, is.limits.rows, length-map activities activity_of)
