use Rattle.std.proofs.Common.{◌≡◌, ◌*◌, ◌∙◌, sym, subst, Bool, false, arith}
use Rattle.std.specs.List.{list_any}
use Rattle.std.proofs.lemmas.List.{take_all}
use Rattle.plan_gantt.specs.Overlaps.{overlaps}
use Rattle.plan_gantt.specs.declared.interval.Interval.{Interval}
use Rattle.plan_gantt.proofs.CellLemmas.{marked_by_bounds, found_any}
use Rattle.plan_gantt.proofs.interval.is_marked.Goals as goal

pub returns-then-overlaps : goal.returns-then-overlaps
returns-then-overlaps c =
    let test : Interval → Bool = λ v. overlaps v (c.args.cell * c.args.unit) c.args.unit in
    let found = found_any test c.args.intervals.now c.loop-interval.interval-index (record { start = 0; duration = 0 }) c.loop-interval-test.true (sym c.overlaps.ensures ∙ c.if-overlaps.true) in
    sym (marked_by_bounds c.args.unit c.args.intervals.now c.args.cell ∙ found)

pub returns : goal.returns
returns c =
    let test : Interval → Bool = λ v. overlaps v (c.args.cell * c.args.unit) c.args.unit in
    let all = subst (λ vs. list_any test vs ≡ false) (take_all c.loop-interval.interval-index c.args.intervals.now (omega arith)) c.loop-interval.invariant in
    sym (marked_by_bounds c.args.unit c.args.intervals.now c.args.cell ∙ all)
