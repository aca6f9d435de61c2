-- The entries so far are placed, and the profile holds their usage.
use Rattle.plan_sgs.specs.Instances.{problem_of}
use Rattle.plan_sgs.specs.Rules.{places}
use Rattle.plan_sgs.specs.Placement.{Holds}
use Rattle.plan_sgs.proofs.RunLemmas.{IsRun}
use Rattle.plan_sgs.proofs.placement.place_all.Given as goal

abbrev pub invariant-loop-j : goal.invariant-loop-j
invariant-loop-j l = record {
  run : IsRun (problem_of l.instance) (places l.list) l.j-index l.placed.items;
  holds : Holds l.profile (problem_of l.instance) l.placed.items;
}
