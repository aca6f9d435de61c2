use Rattle.std.proofs.Common.{arith}
use Rattle.plan_kernel.proofs.InputLemmas.{count_is}
use Rattle.plan_kernel.proofs.feasible.cost_of.Goals as goal

pub returns-clause-some : goal.returns-clause-some
returns-clause-some c =
    let fits = c.fits_always.ensures.yes c.if-not-fits_always.false in
    record {
      plan = record {
        feasible = record {
          each_started = omega (arith, c.if-starts-len.false, c.len.ensures, count_is c.args.input.now);
          arcs = c.keeps_arcs.ensures.yes c.if-not-keeps_arcs.false;
          capacities = λ t k inside. omega (arith, fits t k inside);
        };
        windows = c.keeps_windows.ensures.yes c.if-not-keeps_windows.false;
        fits = fits;
      };
      cost_is = c.greatest_cost.ensures;
    }

pub returns-then-starts-len-clause-none : goal.returns-then-starts-len-clause-none
returns-then-starts-len-clause-none c plan = c.if-starts-len.true (omega (arith, plan.feasible.each_started, count_is c.args.input.now, c.len.ensures))
