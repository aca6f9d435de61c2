use Rattle.std.proofs.Common.{refl}
use Rattle.plan_cli.proofs.TurnLemmas.{solution_by_proof}
use Rattle.plan_cli.proofs.solver.solved_shop.Goals as goal

pub returns : goal.returns
returns g c = solution_by_proof c.args.shop.now c.in_ok-proof.proof _ c.machines-machines.ensures.shop c.in_ok-proof.ensures refl refl
