use Rattle.std.proofs.Common.{List, Contains, get_or, subst}
use Rattle.std.proofs.lemmas.List.Elements.{Contains-get_or}
use Rattle.plan_kernel.specs.declared.input.StartWindow.{StartWindow}
use Rattle.plan_kernel.proofs.facts.raise_windows.Goals as goal

pub raise_window-requires-clause-window : goal.raise_window-requires-clause-window
raise_window-requires-clause-window c =
    let none : StartWindow = record { activity = 0; earliest = 0; latest = 0 } in
    let items = c.deref-window-items.result.now in
    let i = c.loop-window.window-index in
    subst (λ (xs : List StartWindow). Contains xs (get_or items i none)) c.deref-window-items.ensures.value
    (Contains-get_or items i none c.loop-window-test.true)
