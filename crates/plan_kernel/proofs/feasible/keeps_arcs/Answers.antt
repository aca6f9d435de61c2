use Rattle.std.proofs.Common.{◌≤◌, ap, length, arith}
use Rattle.std.proofs.lemmas.List.{take_all}
use Rattle.plan_kernel.specs.Inputs.{problem_of}
use Rattle.plan_kernel.proofs.InputLemmas.{arcs_kept}
use Rattle.plan_kernel.proofs.FeasibleLemmas.{arc_more, arc_broken}
use Rattle.plan_kernel.proofs.feasible.keeps_arcs.Goals as goal

pub loop-arc-preserved : goal.loop-arc-preserved
loop-arc-preserved c =
    let input = c.args.input.now in
    arc_more (problem_of input) c.args.starts.now c.deref-arc-items.result.now input.arcs.items c.loop-arc.arc-index c.end.result c.at.result
    c.deref-arc-items.ensures.value c.loop-arc-test.true c.loop-arc.invariant c.end.ensures.value c.at.ensures c.if-end-arc.false

pub returns-clause-yes : goal.returns-clause-yes
returns-clause-yes c _ =
    let input = c.args.input.now in
    let long : length input.arcs.items ≤ c.loop-arc.arc-index = omega (arith, c.loop-arc-test.false, ap length c.deref-arc-items.ensures.value) in
    let whole = take_all c.loop-arc.arc-index input.arcs.items long in
    arcs_kept input c.args.starts.now (rw whole at c.loop-arc.invariant)

pub returns-then-end-arc-clause-no : goal.returns-then-end-arc-clause-no
returns-then-end-arc-clause-no c _ =
    arc_broken c.args.input.now c.args.starts.now c.deref-arc-items.result.now c.loop-arc.arc-index c.end.result c.at.result c.deref-arc-items.ensures.value
    c.loop-arc-test.true c.end.ensures.value c.at.ensures c.if-end-arc.true
