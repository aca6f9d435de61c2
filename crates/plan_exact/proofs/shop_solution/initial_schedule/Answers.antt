use Rattle.std.proofs.Common.{ap, ◌∙◌}
use Rattle.plan_sgs.specs.Problem.{makespan}
use Rattle.plan_shop.specs.Shop.{problem_of}
use Rattle.plan_shop.specs.Words.{makespan_of}
use Rattle.plan_exact.proofs.shop_solution.initial_schedule.Goals as goal

pub returns : goal.returns
unfolding makespan_of
returns c =
    record {
      starts = c.in-Ok.ensures.starts;
      makespan = c.in-Ok.ensures.makespan ∙ ap (makespan (problem_of c.args.shop.now)) c.in-Ok.ensures.starts;
      within = c.in-Ok.ensures.within;
    }
