-- All rows of an office, each table in the order of its key (docs/definitions.md, "Tables"). Texts
-- are compared byte by byte.
use Rattle.std.specs.Prelude.{◌≡◌, ℕ, Bool, List, map, string_bytes}
use Rattle.std.specs.Cmp.Lexicographic.{slice_cmp}
use Rattle.std.specs.Ordering.{nat_cmp, is_lt, ordering_then}
use Rattle.plan_rows.specs.declared.rows.CodeRow.{CodeRow}
use Rattle.plan_rows.specs.declared.tables.records.DeskRecord.{DeskRecord}
use Rattle.plan_rows.specs.declared.tables.records.BindRecord.{BindRecord}
use Rattle.plan_rows.specs.declared.tables.records.LagRecord.{LagRecord}
use Rattle.plan_rows.specs.World.{Text, Digest, Desk, Plan, Bind, Lag, World}
use Rattle.plan_rows.specs.Plans.{in_order}
use Rattle.plan_rows.specs.Books.{ListsCodes}
use Rattle.plan_rows.specs.Tables.{desk_kept, bind_kept, lag_kept}
use Rattle.plan_rows.specs.declared.keyed_rows.PlanKey.{PlanKey}
use Rattle.plan_rows.specs.declared.keyed_rows.RowsByKey.{RowsByKey}

-- desks by name
abbrev pub desk_before : Desk → Desk → Bool
desk_before a b = is_lt (slice_cmp nat_cmp a.desk b.desk)

-- plans by desk, then by number
abbrev pub plan_key_before : Plan → Plan → Bool
plan_key_before a b = is_lt (ordering_then (slice_cmp nat_cmp a.desk b.desk) (nat_cmp a.n b.n))

-- binds by plan, then by place
abbrev pub bind_key_before : Bind → Bind → Bool
bind_key_before a b =
    is_lt (ordering_then (slice_cmp nat_cmp a.desk b.desk)
    (ordering_then (nat_cmp a.n b.n) (nat_cmp a.place b.place)))

-- lags by plan, then by the first activity, then by the second one
abbrev pub lag_key_before : Lag → Lag → Bool
lag_key_before a b =
    is_lt (ordering_then (slice_cmp nat_cmp a.desk b.desk)
    (ordering_then (nat_cmp a.n b.n)
    (ordering_then (nat_cmp a.source b.source) (nat_cmp a.target b.target))))

-- the desk and the number of a plan
abbrev pub key_of : Plan → Text × ℕ
key_of row = (row.desk, row.n)

abbrev pub key_in : PlanKey → Text × ℕ
key_in key = (string_bytes key.desk, key.n)

-- the digest of the office's key, and the rows of the first two tables by their keys
pub record AreDeskTables (w : World) (office : Digest) (published : List CodeRow) (desks : List DeskRecord) : Type 0 where
  pub office_is : office ≡ w.office
  pub published_are : ListsCodes w.published published
  pub desks_are : map desk_kept desks ≡ in_order desk_before w.desks

-- the keys of plans, and the rows of the tables that belong to them
pub record ArePlanTables (w : World) (plans : List PlanKey) (binds : List BindRecord) (lags : List LagRecord) : Type 0 where
  pub plans_are : map key_in plans ≡ map key_of (in_order plan_key_before w.plans)
  pub binds_are : map bind_kept binds ≡ in_order bind_key_before w.binds
  pub lags_are : map lag_kept lags ≡ in_order lag_key_before w.lags

-- the rows of an office by their keys, and only the keys of plans
pub record AreRowsByKey (w : World) (rows : RowsByKey) : Type 0 where
  pub desk_tables : AreDeskTables w rows.office rows.published.items rows.desks.items
  pub plan_tables : ArePlanTables w rows.plans.items rows.binds.items rows.lags.items
