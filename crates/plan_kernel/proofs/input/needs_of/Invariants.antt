use Rattle.std.proofs.Common.{◌≡◌, take, map}
use Rattle.plan_kernel.proofs.input.needs_of.Given as goal

-- the rows so far
abbrev pub invariant-loop-place : goal.invariant-loop-place
invariant-loop-place l = map (λ row. row.items) l.needs.items ≡ take l.place l.instance.project.needs
