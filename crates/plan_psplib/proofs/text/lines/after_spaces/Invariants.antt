use Rattle.std.proofs.Common.{◌≡◌, length}
use Rattle.plan_psplib.specs.Lines.{trim_start}
use Rattle.plan_psplib.proofs.text.lines.after_spaces.Given as goal

-- the spaces that were dropped are dropped by the definition
abbrev pub invariant-loop-left : goal.invariant-loop-left
invariant-loop-left l = trim_start l.left ≡ trim_start l.fn.text

abbrev pub decreases-loop-left : goal.decreases-loop-left
decreases-loop-left l = length l.left
