use Rattle.std.proofs.Common.{take}
use Rattle.std.specs.List.{All}
use Rattle.plan_kernel.specs.Plans.{KeepsWindow}
use Rattle.plan_kernel.proofs.feasible.keeps_windows.Given as goal

-- the windows so far are kept
abbrev pub invariant-loop-window : goal.invariant-loop-window
invariant-loop-window l = All (KeepsWindow l.starts) (take l.window-index l.input.windows.items)
