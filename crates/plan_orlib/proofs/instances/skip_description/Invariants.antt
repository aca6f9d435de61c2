use Rattle.std.proofs.Common.{◌≡◌, length}
use Rattle.plan_orlib.specs.Instances.{block_lines, behind_description}
use Rattle.plan_orlib.proofs.instances.skip_description.Given as goal

-- the lines so far are blank lines and plus lines
abbrev pub invariant-loop-line : goal.invariant-loop-line
invariant-loop-line l = behind_description (block_lines l.lines) ≡ behind_description (block_lines l.fn.lines)

abbrev pub decreases-loop-line : goal.decreases-loop-line
decreases-loop-line l = length l.lines
