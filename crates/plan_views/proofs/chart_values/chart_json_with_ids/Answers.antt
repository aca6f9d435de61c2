use Rattle.std.proofs.Common.{◌≡◌, ◌≤◌, false, map, sym, subst, arith}
use Rattle.serde_json.specs.Data.{Data, depth}
use Rattle.serde_json.specs.Read.{max_depth}
use Rattle.serde_json.specs.Written.{has_float}
use Rattle.plan_table.specs.Names.{name_of}
use Rattle.plan_views.specs.Charts.{chart_of}
use Rattle.plan_views.specs.ChartData.{id_chart_data}
use Rattle.plan_views.proofs.ChartFitLemmas.{chart_fits}
use Rattle.plan_views.proofs.chart_values.chart_json_with_ids.Goals as goal

pub value_line-requires-clause-whole : goal.value_line-requires-clause-whole
value_line-requires-clause-whole c =
    subst (λ (d : Data). has_float d ≡ false) (sym c.in_ok-value.ensures) (chart_fits (map name_of c.args.ids.now) (map name_of c.args.names.now) (chart_of c.args.chart.now)).0

pub value_line-requires-clause-flat : goal.value_line-requires-clause-flat
value_line-requires-clause-flat c =
    let value = id_chart_data (map name_of c.args.ids.now) (map name_of c.args.names.now) (chart_of c.args.chart.now) in
    let flat : depth value ≤ 5 = (chart_fits (map name_of c.args.ids.now) (map name_of c.args.names.now) (chart_of c.args.chart.now)).1 in
    let within : depth value ≤ max_depth = omega (arith, flat) in
    subst (λ (d : Data). depth d ≤ max_depth) (sym c.in_ok-value.ensures) within
