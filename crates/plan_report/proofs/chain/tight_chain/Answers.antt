use Rattle.std.proofs.Common.{ℕ, ◌≡◌, ◌-◌, ◌≤◌, List, length, get_or, sym, ◌∙◌, subst}
use Rattle.std.specs.Prelude.{All}
use Rattle.plan_sgs.specs.Instances.{problem_of}
use Rattle.plan_sgs.proofs.InstanceLemmas.{count-problem}
use Rattle.plan_report.specs.Chain.{AreAllReached}
use Rattle.plan_report.proofs.ChainLemmas.{no_chain, reached_inside}
use Rattle.plan_report.proofs.chain.tight_chain.Goals as goal

pub first_at_zero-requires : goal.first_at_zero-requires
first_at_zero-requires c =
    let i = c.args.instance.now in
    let s = c.args.starts.now in
    subst (λ (xs : List ℕ). All (λ j. (1 ≤ j) × (j ≤ length s)) xs) (sym c.deref.ensures.value)
    (reached_inside (problem_of i) s c.args.slacks.now c.in_ok-reached.reached.items c.in_ok-reached.nexts.items (length s) c.in_ok-reached.ensures (count-problem i ∙ sym c.requires.whole))

pub returns-in-Some-clause-chain : goal.returns-in-Some-clause-chain
returns-in-Some-clause-chain c =
    let p = problem_of c.args.instance.now in
    let s = c.args.starts.now in
    let slacks = c.args.slacks.now in
    let nexts = c.deref-in-Some-2.result.now in
    let all : AreAllReached p s slacks c.deref-in-Some.result.now nexts =
    subst (λ (xs : List ℕ). AreAllReached p s slacks xs nexts) (sym c.deref-in-Some.ensures.value)
    (subst (λ (ys : List ℕ). AreAllReached p s slacks c.in_ok-reached.reached.items ys) (sym c.deref-in-Some-2.ensures.value) c.in_ok-reached.ensures) in
    let start : get_or s (get_or c.deref-in-Some.result.now c.in-Some.first 0 - 1) 0 ≡ 0 =
    subst (λ (xs : List ℕ). get_or s (get_or xs c.in-Some.first 0 - 1) 0 ≡ 0) (c.deref.ensures.value ∙ sym c.deref-in-Some.ensures.value) c.in-Some.ensures.some.1 in
    c.in_ok-chain_from-in-Some.ensures p s slacks all start

pub returns-clause-none : goal.returns-clause-none
returns-clause-none c =
    let p = problem_of c.args.instance.now in
    let s = c.args.starts.now in
    let slacks = c.args.slacks.now in
    let nexts = c.in_ok-reached.nexts.items in
    let all : AreAllReached p s slacks c.deref.result.now nexts = subst (λ (xs : List ℕ). AreAllReached p s slacks xs nexts) (sym c.deref.ensures.value) c.in_ok-reached.ensures in
    no_chain p s slacks c.deref.result.now nexts all c.in-None.ensures.none
