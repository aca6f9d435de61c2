use Rattle.std.proofs.Common.{◌+◌, ◌++◌, ◌∙◌, ap, string_bytes}
use Rattle.plan_sheet.specs.Chart.{chart_of, line_of, number_at}
use Rattle.plan_sheet.proofs.NumberedLemmas.{next_number}
use Rattle.plan_sheet.proofs.chart.push_lines.Goals as goal

pub loop-k-preserved : goal.loop-k-preserved
loop-k-preserved c =
    next_number (λ k. line_of (chart_of c.args.chart.now) k (number_at (chart_of c.args.chart.now) (c.args.first + k))) c.loop-k.k _ _ _ c.loop-k.invariant
    (c.in_ok-push_line.ensures ∙ ap (λ n. string_bytes c.loop-k.text ++ line_of (chart_of c.args.chart.now) c.loop-k.k n) c.number_at.ensures)
