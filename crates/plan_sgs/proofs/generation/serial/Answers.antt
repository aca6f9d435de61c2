use Rattle.std.proofs.Common.{ℕ, ◌≡◌, List, length, ap, arith}
use Rattle.plan_net.specs.Network.{count_of}
use Rattle.plan_sgs.proofs.InstanceLemmas.{count-problem}
use Rattle.plan_sgs.proofs.generation.serial.Goals as goal

pub rule_list-requires : goal.rule_list-requires
rule_list-requires c =
    let keys : length c.deref.result.now ≡ length c.in_ok-keys.keys.items = ap (λ (xs : List ℕ). length xs) c.deref.ensures.value in
    let size : count_of c.network.result.now ≡ count_of c.args.instance.now.project.network = ap count_of c.network.ensures.network in
    omega (arith, keys, size, c.in_ok-keys.ensures.0, count-problem c.args.instance.now)
