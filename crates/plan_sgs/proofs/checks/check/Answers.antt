use Rattle.std.proofs.Common.{sym, ◌∙◌, subst}
use Rattle.plan_sgs.specs.Instances.{problem_of}
use Rattle.plan_sgs.specs.Checks.{IsBrokenAnswer, IsOverAnswer}
use Rattle.plan_sgs.proofs.InstanceLemmas.{count-problem}
use Rattle.plan_sgs.proofs.checks.check.Goals as goal

pub first_shift-requires-clause-feasible : goal.first_shift-requires-clause-feasible
first_shift-requires-clause-feasible c =
    let p = problem_of c.args.instance.now in
    let s = c.args.starts.now in
    record {
      each_started = c.requires.whole ∙ sym (count-problem c.args.instance.now);
      arcs = subst (IsBrokenAnswer p s) c.in_default.is c.first_broken.ensures;
      capacities = subst (IsOverAnswer p s) c.in_default-2.is c.in_ok-t.ensures;
    }
