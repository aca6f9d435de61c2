use Rattle.std.proofs.Common.{◌≡◌, ◌∙◌, ◌++◌, List, refl, ap}
use Rattle.plan_kernel.specs.declared.input.StartWindow.{StartWindow}
use Rattle.plan_kernel.specs.declared.input.Input.{Input}
use Rattle.plan_week.proofs.LimitedLemmas.{has_plans_within, more_windows}
use Rattle.plan_week.proofs.dues.limited_input.Goals as goal

pub returns : goal.returns
returns c =
    let input = c.in_ok-input.input in
    let limits = c.in_ok-limits.limits.items in
    let more : Input = record input { windows = c.in_ok-windows.windows } in
    let added : c.in_ok-windows.windows.items ≡ input.windows.items ++ limits =
    c.in_ok-windows.ensures ∙ ap (λ (xs : List StartWindow). xs ++ c.deref-2.result.now) c.deref.ensures.value
    ∙ ap (λ (xs : List StartWindow). input.windows.items ++ xs) c.deref-2.ensures.value in
    has_plans_within c.args.week.now c.args.late input more limits c.in_ok-input.ensures.numbers c.in_ok-input.ensures.tails c.in_ok-limits.ensures
    (more_windows input more limits refl refl refl refl refl refl added)
