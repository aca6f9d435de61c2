use Rattle.std.proofs.Common.{ap, ◌∙◌}
use Rattle.plan_shop.proofs.ShopBasics.{count_is}
use Rattle.plan_cli.specs.Views.{table}
use Rattle.plan_cli.proofs.proof.proved.Goals as goal

pub proof_table-requires-clause-starts : goal.proof_table-requires-clause-starts
proof_table-requires-clause-starts g c = c.in-Ok.ensures.active.feasible.each_started ∙ count_is c.args.shop.now

pub returns-in_ok-proof_table-in-Ok-clause-made : goal.returns-in_ok-proof_table-in-Ok-clause-made
returns-in_ok-proof_table-in-Ok-clause-made g c =
    let e = c.in-Ok.ensures in
    record {
      proof = c.in-Ok.proof;
      active = e.active;
      makespan = e.makespan;
      lower = e.lower;
      below = e.below;
      visited = e.nodes;
      shortest = e.proved;
      shown = ap table c.in_ok-proof_table-in-Ok.ensures;
    }
