use Rattle.std.proofs.Common.{◌≤◌}
use Rattle.plan_shop.specs.Shop.{problem_of}
use Rattle.plan_prove.specs.Proofs.{IsProofOf}
use Rattle.plan_solve.specs.Sessions.{IsSessionOf}
use Rattle.plan_turns.proofs.shops.search_from.Given as goal

-- the best so far is a proof, the search by conflicts is one of the shop, and what is left of the
-- limits is allowed
abbrev pub invariant-loop-turn : goal.invariant-loop-turn
invariant-loop-turn g l = record {
  proof : IsProofOf l.shop l.best;
  session : IsSessionOf (problem_of l.shop) l.session;
  conflicts : l.conflicts ≤ 1000000000;
  nodes : l.nodes ≤ 1000000000;
}
