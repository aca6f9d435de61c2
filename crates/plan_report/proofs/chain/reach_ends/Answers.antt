use Rattle.std.proofs.Common.{◌≡◌, false, List, [], ℕ, replicate, sym, ap, ◌∙◌, subst}
use Rattle.plan_net.specs.Network.{count_of}
use Rattle.plan_sgs.specs.Problem.{count}
use Rattle.plan_sgs.specs.Instances.{problem_of}
use Rattle.plan_sgs.proofs.InstanceLemmas.{count-problem}
use Rattle.plan_report.specs.Chain.{IsSearch}
use Rattle.plan_report.proofs.ReachLemmas.{search_none}
use Rattle.plan_report.proofs.chain.reach_ends.Goals as goal

pub reach-requires-clause-search : goal.reach-requires-clause-search
reach-requires-clause-search c =
    let i = c.args.instance.now in
    let p = problem_of i in
    let s = c.args.starts.now in
    let slacks = c.args.slacks.now in
    let marks = c.in_ok-marks.marks.items in
    let many : c.len.result ≡ count p = c.len.ensures.count ∙ ap count_of c.network.ensures.network ∙ sym (count-problem i) in
    let unset : marks ≡ replicate (count p) false = c.in_ok-marks.ensures.items_if_clones_equal (λ y e. e) ∙ ap (λ (n : ℕ). replicate n false) many in
    subst (λ (x : List ℕ). IsSearch p s slacks marks x c.args.nexts.now.items) (sym c.requires.none)
    (subst (λ (x : List ℕ). IsSearch p s slacks marks [] x) (sym c.requires.no_nexts) (search_none p s slacks marks unset))
