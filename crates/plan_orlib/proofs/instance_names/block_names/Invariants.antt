use Rattle.std.proofs.Common.{◌≡◌, ◌++◌, length, map}
use Rattle.std.specs.List.{filter_map}
use Rattle.plan_psplib.specs.Lines.{lines}
use Rattle.plan_orlib.specs.Instances.{instance_name}
use Rattle.plan_orlib.proofs.instance_names.block_names.Given as goal

-- the names so far, followed by those of the remaining lines, are all names
abbrev pub invariant-loop-line : goal.invariant-loop-line
invariant-loop-line l = map (λ name. name.items) l.names.items ++ filter_map (λ line. instance_name line.text) l.lines ≡ filter_map (λ line. instance_name line.text) (lines l.text)

abbrev pub decreases-loop-line : goal.decreases-loop-line
decreases-loop-line l = length l.lines
