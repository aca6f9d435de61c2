use Rattle.std.proofs.Common.{ℕ, ◌<◌, ◌≤◌, List, [], ◌∷◌, ◌++◌, length, get_or, sym, subst, arith}
use Rattle.plan_report.specs.Chain.{IsChain}
use Rattle.plan_report.proofs.ChainLemmas.{IsStretch, follow_next, follow_end}
use Rattle.plan_report.proofs.chain.chain_from.Goals as goal

pub loop-at-preserved : goal.loop-at-preserved
loop-at-preserved c =
    let reached = c.args.reached.now in
    let nexts = c.args.nexts.now in
    let at = c.loop-at.at in
    let chain = c.loop-at.chain.items in
    let inside : at < length reached = c.loop-at.invariant.inside in
    let later : get_or nexts at 0 < at = omega (arith, c.loop-at-test.true) in
    record {
      inside = omega (arith, inside, later);
      stretch = λ p s slacks all first.
          subst (λ (xs : List ℕ). IsStretch p s slacks (xs ++ get_or reached (get_or nexts at 0) 0 ∷ [])) (sym c.in_ok-push.ensures.items)
          (follow_next p s slacks reached nexts chain at all inside later (c.loop-at.invariant.stretch p s slacks all first));
    }

pub returns : goal.returns
returns c = λ p s slacks all first.
    let reached = c.args.reached.now in
    let nexts = c.args.nexts.now in
    let at = c.loop-at.at in
    let last : at ≤ get_or nexts at 0 = omega (arith, c.loop-at-test.false) in
    subst (IsChain p s slacks) (sym c.in_ok-push-2.ensures.items)
    (follow_end p s slacks reached nexts c.loop-at.chain.items at all c.loop-at.invariant.inside last (c.loop-at.invariant.stretch p s slacks all first))
