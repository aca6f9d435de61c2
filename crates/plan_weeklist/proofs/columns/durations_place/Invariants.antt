use Rattle.std.proofs.Common.{◌≡◌, map, drop}
use Rattle.plan_table.specs.declared.header.Column.TheVariants as columns
use Rattle.plan_table.specs.Entries.{place_from}
use Rattle.plan_table.specs.Header.{head_of}
use Rattle.plan_weeklist.proofs.columns.durations_place.Given as goal

-- the column is among those that are left
abbrev pub invariant-loop-k : goal.invariant-loop-k
invariant-loop-k l =
    place_from columns.Duration l.k (map head_of (drop l.k l.heads))
    ≡ place_from columns.Duration 0 (map head_of l.heads)
