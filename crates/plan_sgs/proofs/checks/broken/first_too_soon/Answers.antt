use Rattle.std.proofs.Common.{get_or, arith}
use Rattle.std.proofs.lemmas.List.Elements.{Contains-get_or}
use Rattle.plan_net.specs.Network.{IsArc}
use Rattle.plan_net.proofs.RisingLemmas.{each_of_rising, least_of_rising}
use Rattle.plan_sgs.specs.Checks.{IsTooSoon}
use Rattle.plan_sgs.proofs.checks.broken.first_too_soon.Goals as goal

pub lag_between-requires : goal.lag_between-requires
lag_between-requires c =
    let items = c.succs-j-items.result.now in
    (c.succs-j-items.ensures.exact.exact (get_or items c.loop-j.j-index 0)).0 (Contains-get_or items c.loop-j.j-index 0 c.loop-j-test.true)

pub returns-then-starts-j-clause-some : goal.returns-then-starts-j-clause-some
returns-then-starts-j-clause-some c =
    let net = c.args.network.now in
    let s = c.args.starts.now in
    let items = c.succs-j-items.result.now in
    let early : IsTooSoon net s c.args.i (get_or items c.loop-j.j-index 0) = omega arith in
    least_of_rising (IsArc net c.args.i) (IsTooSoon net s c.args.i) items c.loop-j.j-index c.succs-j-items.ensures.exact c.loop-j-test.true early c.loop-j.invariant

pub returns-clause-none : goal.returns-clause-none
returns-clause-none c =
    let net = c.args.network.now in
    each_of_rising (IsArc net c.args.i) (λ j. IsTooSoon net c.args.starts.now c.args.i j → ⊥) c.succs-j-items.result.now c.succs-j-items.ensures.exact
    (λ k within. c.loop-j.invariant k (omega (arith, c.loop-j-test.false)))
