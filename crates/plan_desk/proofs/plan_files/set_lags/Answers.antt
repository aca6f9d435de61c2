use Rattle.std.proofs.Common.{◌+◌, ◌∙◌, map, drop, sym, ap}
use Rattle.plan_rows.specs.Plans.{lagged_by}
use Rattle.plan_rows.specs.Books.{lag_in}
use Rattle.plan_desk.proofs.FileLemmas.{lagged_by-drop, lags_taken}
use Rattle.plan_desk.proofs.plan_files.set_lags.Goals as goal

pub returns-in_default-clause-blamed : goal.returns-in_default-clause-blamed
returns-in_default-clause-blamed c blamed takes =
    lags_taken c.args.lags.now c.loop-row.row-index _ c.args.project.now c.loop-row.project c.in_default.field-0 c.loop-row-test.true
    c.loop-row.invariant.arcs takes c.in_default.ensures.refused

pub loop-row-preserved : goal.loop-row-preserved
loop-row-preserved c = record {
  rest =
      ap (lagged_by (map lag_in (drop (c.loop-row.row-index + 1) c.args.lags.now))) c.in-Ok.ensures.ok.2
      ∙ sym (lagged_by-drop c.args.lags.now c.loop-row.row-index _ c.loop-row.project c.loop-row-test.true)
      ∙ c.loop-row.invariant.rest;
  arcs = ap (λ p. p.network.arcs) c.in-Ok.ensures.ok.2 ∙ c.loop-row.invariant.arcs;
}
