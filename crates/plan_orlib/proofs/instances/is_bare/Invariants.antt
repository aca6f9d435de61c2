use Rattle.std.proofs.Common.{◌≡◌, length}
use Rattle.plan_orlib.specs.Instances.{is_bare, nonblank, begins_with_two_numbers}
use Rattle.plan_orlib.proofs.instances.is_bare.Given as goal

-- the lines so far are blank
abbrev pub invariant-loop-line : goal.invariant-loop-line
invariant-loop-line l = begins_with_two_numbers (nonblank l.lines) ≡ is_bare l.text

abbrev pub decreases-loop-line : goal.decreases-loop-line
decreases-loop-line l = length l.lines
