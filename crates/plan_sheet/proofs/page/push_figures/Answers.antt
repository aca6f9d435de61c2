use Rattle.plan_sheet.specs.Chart.{chart_of}
use Rattle.plan_sheet.specs.Page.{figure}
use Rattle.plan_sheet.proofs.NumberedLemmas.{next_number}
use Rattle.plan_sheet.proofs.page.push_figures.Goals as goal

pub loop-k-preserved : goal.loop-k-preserved
loop-k-preserved c =
    next_number (figure (chart_of c.args.chart.now) c.args.count) c.loop-k.k _ _ _ c.loop-k.invariant c.in_ok-push_figure.ensures
