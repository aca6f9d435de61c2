use Rattle.std.proofs.Common.{ℕ, ◌≡◌, ◌+◌, ◌<◌, inl, length, get_or, refl, sym, ◌∙◌, ap, arith}
use Rattle.plan_net.specs.Network.{Net, count_of, duration_of}
use Rattle.plan_profile.specs.InUse.{in_use, capacities}
use Rattle.plan_profile.specs.declared.profile.TheConstants.{END}
use Rattle.plan_sgs.specs.Problem.{count, duration, total}
use Rattle.plan_sgs.specs.Instances.{problem_of}
use Rattle.plan_sgs.proofs.InstanceLemmas.{count-problem, capacities-problem, duration-problem, need-problem}
use Rattle.plan_sgs.proofs.StartLemmas.{amount_at, next_fits, next_used, usage_is}
use Rattle.plan_sgs.proofs.TotalLemmas.{greatest_above}
use Rattle.plan_report.proofs.slack.profile_of.Goals as goal

pub place-requires-clause-end : goal.place-requires-clause-end
place-requires-clause-end c =
    let i = c.args.instance.now in
    let p = problem_of i in
    let s = c.args.starts.now in
    let k = c.loop-k.k in
    let inside : k < count p = omega (arith, c.loop-k-test.true, c.len-k-end.ensures.count, ap count_of c.network-network.ensures.network, count-problem i) in
    let lasts : duration p k ≡ duration_of c.network-network.result.now (k + 1) =
    duration-problem i k (k + 1) refl ∙ sym (ap
    (λ (net : Net). duration_of net (k + 1)) c.network-network.ensures.network) in
    omega (arith, lasts, c.duration-d.ensures.value, c.requires.ends, greatest_above (count p) (λ h. get_or s h 0 + duration p h) k inside)

pub place-requires-clause-fits : goal.place-requires-clause-fits
place-requires-clause-fits c =
    let i = c.args.instance.now in
    let p = problem_of i in
    let s = c.args.starts.now in
    let k = c.loop-k.k in
    let whole : length s ≡ count p = c.requires.whole ∙ sym (count-problem i) in
    let inside : k < count p = omega (arith, c.loop-k-test.true, c.len-k-end.ensures.count, ap count_of c.network-network.ensures.network, count-problem i) in
    let lasts : duration p k ≡ duration_of c.network-network.result.now (k + 1) =
    duration-problem i k (k + 1) refl ∙ sym (ap
    (λ (net : Net). duration_of net (k + 1)) c.network-network.ensures.network) in
    next_fits END p s k c.duration-d.result c.needs.result.now (capacities c.loop-k.profile)
    (in_use c.loop-k.profile) whole inside (c.loop-k.invariant.caps ∙ sym (capacities-problem i))
    (need-problem i k (k + 1) c.needs.result.now refl c.needs.ensures.row)
    (omega (arith, c.duration-d.ensures.value, lasts))
    (omega (arith, lasts, c.duration-d.ensures.value, c.requires.ends, greatest_above (count p) (λ h. get_or s h 0 + duration p h) k inside)) c.requires.kept c.loop-k.invariant.used

pub loop-k-preserved : goal.loop-k-preserved
loop-k-preserved c =
    let i = c.args.instance.now in
    let p = problem_of i in
    let s = c.args.starts.now in
    let k = c.loop-k.k in
    let lasts : c.duration-d.result ≡ duration p k =
    c.duration-d.ensures.value ∙ ap (λ (net : Net). duration_of net (k + 1)) c.network-network.ensures.network ∙ sym (duration-problem i k (k + 1) refl) in
    record {
      caps = c.place.ensures.caps ∙ c.loop-k.invariant.caps;
      used = next_used END p s k c.duration-d.result c.needs.result.now (in_use c.loop-k.profile) (in_use c.place.new.self) (need-problem i k (k + 1) c.needs.result.now refl c.needs.ensures.row)
          (omega (arith, lasts)) (inl lasts) c.loop-k.invariant.used c.in_ok-place.ensures.ok;
    }

pub returns : goal.returns
returns c =
    let i = c.args.instance.now in
    let p = problem_of i in
    let s = c.args.starts.now in
    let whole : length s ≡ count p = c.requires.whole ∙ sym (count-problem i) in
    let counted = ap count_of c.network-network.ensures.network in
    let all : c.loop-k.k ≡ count p = omega (arith, c.loop-k.auto.k-end, c.loop-k-test.false, c.len-k-end.ensures.count, counted, count-problem i) in
    record {
      caps = c.loop-k.invariant.caps ∙ sym (capacities-problem i);
      used = λ t k early within. c.loop-k.invariant.used t k early within ∙ ap (λ (n : ℕ). total n (amount_at p s t k)) all ∙ sym (usage_is p s t k whole);
    }
