-- The use of a resource over time (docs/definitions.md, "Sheets"). Resources are numbered from 1.
use Rattle.std.specs.Prelude.{ℕ, ◌+◌, ◌-◌, ◌&&◌, if◌then◌else◌, nat_le, nat_lt, List, Option, Some, None, map, min, slice_get, slice_index}
use Rattle.std.specs.List.{range_with_len, sum_by}
use Rattle.plan_net.specs.Network.{count_of, duration_of}
use Rattle.plan_sgs.specs.Instances.{Planned}
use Rattle.plan_sheet.specs.declared.uses.Use.{Use}

-- the amount of a use at instant t
unfoldable pub amount_at : ℕ → Use → ℕ
amount_at t one = if nat_le one.from t && nat_lt t one.to then one.amount else 0

-- the amount in use at instant t, at most 2^32 - 1
abbrev pub used_at : List Use → ℕ → ℕ
used_at uses t = min (sum_by (amount_at t) uses) 4294967295

-- the amount in use at the instant before t; 0 before the first one
unfoldable pub used_before : List Use → ℕ → ℕ
used_before uses t = if nat_lt t 1 then 0 else used_at uses (t - 1)

-- the number at an index of a row, if there is a row
abbrev pub number_in : Option (List ℕ) → ℕ → ℕ
number_in None k = 0
number_in (Some row) k = slice_index row k

-- the use of resource r by activity j
abbrev pub activity_use : Planned → List ℕ → ℕ → ℕ → Use
activity_use i starts r j =
    record {
      from = slice_index starts (j - 1);
      to = slice_index starts (j - 1) + duration_of i.project.network j;
      amount = number_in (slice_get i.project.needs (j - 1)) (r - 1);
    }

-- the uses of resource r by all activities
abbrev pub uses_of : Planned → List ℕ → ℕ → List Use
uses_of i starts r = map (activity_use i starts r) (range_with_len 1 (count_of i.project.network))
