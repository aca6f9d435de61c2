use Rattle.std.proofs.Common.{◌≡◌}
use Rattle.plan_profile.specs.InUse.{in_use, capacities}
use Rattle.plan_profile.specs.declared.profile.TheConstants.{END}
use Rattle.plan_sgs.specs.Instances.{problem_of}
use Rattle.plan_sgs.proofs.StartLemmas.{IsUsedByFirst}
use Rattle.plan_report.proofs.slack.profile_of.Given as goal

-- the profile holds the activities so far
abbrev pub invariant-loop-k : goal.invariant-loop-k
invariant-loop-k l = record {
  caps : capacities l.profile ≡ l.instance.capacities;
  used : IsUsedByFirst END (problem_of l.instance) l.starts l.k (in_use l.profile);
}
