use Rattle.std.proofs.Common.{sym, ◌∙◌, subst}
use Rattle.plan_sgs.specs.Checks.{IsBrokenAnswer, IsOverAnswer}
use Rattle.plan_shop.specs.Shop.{problem_of}
use Rattle.plan_shop.proofs.ShopBasics.{count_is}
use Rattle.plan_shop.proofs.checks.check.Goals as goal

pub first_shift-requires-clause-feasible : goal.first_shift-requires-clause-feasible
first_shift-requires-clause-feasible c =
    let p = problem_of c.args.shop.now in
    let s = c.args.starts.now in
    record {
      each_started = c.requires.whole ∙ sym (count_is c.args.shop.now);
      arcs = subst (IsBrokenAnswer p s) c.in_default.is c.first_broken.ensures;
      capacities = subst (IsOverAnswer p s) c.in_default-first_over.is c.first_over.ensures;
    }
