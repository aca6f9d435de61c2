use Rattle.std.proofs.Common.{◌≡◌}
use Rattle.plan_print.specs.Margins.{floats_in}
use Rattle.plan_print.proofs.slacks.floats_in.Given as goal

-- the floats of the activities so far
abbrev pub invariant-loop-k : goal.invariant-loop-k
invariant-loop-k l = l.floats.items ≡ floats_in l.dates l.k
