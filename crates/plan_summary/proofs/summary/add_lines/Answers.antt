use Rattle.std.proofs.Common.{sym, subst, ◌∙◌}
use Rattle.std.proofs.lemmas.List.{take_all}
use Rattle.std.specs.List.{flat_map}
use Rattle.plan_summary.specs.Digests.{Takes}
use Rattle.plan_summary.proofs.SummaryLemmas.{takes_none, takes_then, lines_next}
use Rattle.plan_summary.proofs.summary.add_lines.Goals as goal

pub loop-row-init : goal.loop-row-init
loop-row-init g c = takes_none c.args.hasher.now

pub loop-row-preserved : goal.loop-row-preserved
loop-row-preserved g c =
    subst (Takes c.args.hasher.now c.add_text.new.hasher)
    (lines_next g.T.Line.written c.args.rows.now c.loop-row.row-index c.row-item.result _ c.loop-row-test.true (sym c.row-item.is) (c.as_str.ensures.value ∙ c.in_ok-line.ensures))
    (takes_then c.args.hasher.now c.loop-row.hasher c.add_text.new.hasher _ _ c.loop-row.invariant c.add_text.ensures)

pub returns : goal.returns
returns g c = subst (λ l. Takes c.args.hasher.now c.loop-row.hasher (flat_map g.T.Line.written l)) (take_all c.loop-row.row-index c.args.rows.now c.loop-row-test.false) c.loop-row.invariant
