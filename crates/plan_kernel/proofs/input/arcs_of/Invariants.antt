use Rattle.std.proofs.Common.{◌≡◌, take, map}
use Rattle.plan_sgs.specs.Instances as instances
use Rattle.plan_kernel.specs.Inputs.{link_of}
use Rattle.plan_kernel.proofs.input.arcs_of.Given as goal

-- the links of the arcs so far
abbrev pub invariant-loop-from : goal.invariant-loop-from
invariant-loop-from l = map link_of l.arcs.items ≡ map (instances.link_of l.instance.project.network) (take l.from-index l.instance.project.network.arcs)
