use Rattle.std.proofs.Common.{map}
use Rattle.plan_table.specs.Names.{name_of}
use Rattle.plan_sheet.specs.Chart.{chart_of}
use Rattle.plan_sheet.specs.Usage.{use_figure}
use Rattle.plan_sheet.proofs.NumberedLemmas.{next_number}
use Rattle.plan_sheet.proofs.usage.push_use_figures.Goals as goal

pub loop-k-preserved : goal.loop-k-preserved
loop-k-preserved c =
    next_number (use_figure (chart_of c.args.chart.now) (map name_of c.args.resources.now) c.args.instance.now c.args.starts.now c.args.makespan) c.loop-k.k _ _ _ c.loop-k.invariant c.in_ok-push_use_figure.ensures
