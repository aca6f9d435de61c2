use Rattle.std.proofs.Common.{◌≡◌, map, drop}
use Rattle.std.specs.List.{list_any}
use Rattle.plan_table.specs.Csv.{row_of}
use Rattle.plan_table.specs.Settlement.{gives_capacity}
use Rattle.plan_table.proofs.settlement.any_capacity.Given as goal

-- a row gives a capacity if one of those that are left does
abbrev pub invariant-loop-row : goal.invariant-loop-row
invariant-loop-row l = list_any (gives_capacity l.place l.k) (map row_of (drop l.row-index l.rows)) ≡ list_any (gives_capacity l.place l.k) (map row_of l.rows)
