use Rattle.std.proofs.Common.{◌≤◌, List, ap, length, subst, arith}
use Rattle.std.specs.List.{All}
use Rattle.std.proofs.lemmas.List.{take_all}
use Rattle.plan_kernel.specs.declared.input.StartWindow.{StartWindow}
use Rattle.plan_kernel.specs.Plans.{KeepsWindow}
use Rattle.plan_kernel.proofs.FeasibleLemmas.{window_more, window_kept}
use Rattle.plan_kernel.proofs.feasible.keeps_windows.Goals as goal

pub loop-window-preserved : goal.loop-window-preserved
loop-window-preserved c =
    window_more c.args.starts.now c.deref-window-items.result.now c.args.input.now.windows.items c.loop-window.window-index c.at-start.result
    c.deref-window-items.ensures.value c.loop-window-test.true c.loop-window.invariant c.at-start.ensures
    (omega (arith, c.if-start-window.false)) (omega (arith, c.if-window-start.false))

pub returns-clause-yes : goal.returns-clause-yes
returns-clause-yes c _ =
    let windows = c.args.input.now.windows.items in
    let long : length windows ≤ c.loop-window.window-index = omega (arith, c.loop-window-test.false, ap length c.deref-window-items.ensures.value) in
    subst (λ (xs : List StartWindow). All (KeepsWindow c.args.starts.now) xs) (take_all c.loop-window.window-index windows long) c.loop-window.invariant

pub returns-then-start-window-clause-no : goal.returns-then-start-window-clause-no
returns-then-start-window-clause-no c _ all =
    let kept = window_kept c.args.starts.now c.deref-window-items.result.now c.args.input.now.windows.items c.loop-window.window-index c.at-start.result
    c.deref-window-items.ensures.value c.loop-window-test.true all c.at-start.ensures in
    omega (arith, kept.0, c.if-start-window.true)

pub returns-then-window-start-clause-no : goal.returns-then-window-start-clause-no
returns-then-window-start-clause-no c _ all =
    let kept = window_kept c.args.starts.now c.deref-window-items.result.now c.args.input.now.windows.items c.loop-window.window-index c.at-start.result
    c.deref-window-items.ensures.value c.loop-window-test.true all c.at-start.ensures in
    omega (arith, kept.1, c.if-window-start.true)
