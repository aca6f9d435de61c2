use Rattle.std.proofs.Common.{◌≡◌, map, take}
use Rattle.std.specs.List.{flat_map}
use Rattle.serde_json.specs.View.{view}
use Rattle.plan_table.specs.Names.{name_of}
use Rattle.plan_views.specs.Bars.{row_of}
use Rattle.plan_views.specs.ChartData.{row_objects}
use Rattle.plan_views.proofs.chart_values.rows_value.Given as goal

-- the rows so far
abbrev pub invariant-loop-row : goal.invariant-loop-row
invariant-loop-row l = map view l.list.items ≡ flat_map (row_objects l.owner (map name_of l.texts.ids.now) (map name_of l.texts.names.now)) (map row_of (take l.row-index l.rows))
