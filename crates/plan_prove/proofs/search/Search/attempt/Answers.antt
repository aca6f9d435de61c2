use Rattle.std.proofs.Common.{◌≤◌, arith}
use Rattle.plan_sgs.specs.Problem.{makespan}
use Rattle.plan_shop.specs.Shop.{problem_of}
use Rattle.plan_prove.specs.Proofs.{IsSearchOf}
use Rattle.plan_prove.proofs.GraphLemmas.{refuted_bound, same_search}
use Rattle.plan_prove.proofs.search.Search.attempt.Goals as goal

pub returns-in-Refuted-clause-search : goal.returns-in-Refuted-clause-search
returns-in-Refuted-clause-search g c =
    let shop = c.args.shop.now in
    let before = c.args.self.now in
    let is : IsSearchOf shop c.outcome.new.self = same_search shop before c.outcome.new.self c.outcome.ensures.taken c.requires in
    record {
      graph = is.graph;
      proof = record {
        schedule = is.proof.schedule;
        lower = λ starts feasible.
            let least : c.in-Ok.limit ≤ makespan (problem_of shop) starts =
            refuted_bound shop before.graph c.in-Ok.limit c.requires.graph (c.in_ok-outcome.ensures.refuted c.in-Refuted.is) starts feasible in
            omega (arith, c.max-self.ensures, least, is.proof.lower starts feasible);
      };
      left = is.left;
    }
