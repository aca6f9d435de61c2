-- Each turn looks at one more activity.
use Rattle.std.proofs.Common.{◌≡◌, ◌+◌, refl, ap, ◌∙◌, arith, rules}
use Rattle.plan_net.specs.Network.{Net, count_of, duration_of}
use Rattle.plan_sgs.specs.Instances.{planned}
use Rattle.plan_sgs.proofs.InstanceLemmas.{too_much_here, none_more, none_more_short, fit_from_none}
use Rattle.plan_sgs.proofs.instance.first_too_much.Goals as goal
use Rattle.plan_sgs.proofs.instance.first_too_much.Goals.{then-duration-gt0+in_default, else-duration-gt0}

pub returns-in-Some-clause-some : goal.returns-in-Some-clause-some
returns-in-Some-clause-some c =
    let net = c.network-network.ensures.network in
    let lasts : c.duration.result ≡ duration_of c.args.project.now.network (c.loop-i.i + 1) = c.duration.ensures.value ∙ ap (λ (n : Net). duration_of n (c.loop-i.i + 1)) net in
    let size : c.len-i-end.result ≡ count_of c.args.project.now.network = c.len-i-end.ensures.count ∙ ap count_of net in
    too_much_here (planned c.args.project.now c.args.caps.now) c.loop-i.i c.in-Some.k (c.loop-i.i + 1)
    (c.in-Some.k + 1) c.needs.result.now refl refl (omega (arith, size))
    (omega (arith, lasts)) c.needs.ensures.row c.in-Some.ensures.some c.loop-i.invariant

pub loop-i-preserved : goal.loop-i-preserved
loop-i-preserved c =
    let net = c.network-network.ensures.network in
    let lasts : c.duration.result ≡ duration_of c.args.project.now.network (c.loop-i.i + 1) = c.duration.ensures.value ∙ ap (λ (n : Net). duration_of n (c.loop-i.i + 1)) net in
    elim c.if-duration-gt0.branch [
      | then-duration-gt0+in_default w ↦ none_more (planned c.args.project.now c.args.caps.now) c.loop-i.i
          (c.loop-i.i + 1) w.needs.result.now refl w.needs.ensures.row (search rules) c.loop-i.invariant
      | else-duration-gt0 w ↦ none_more_short (planned c.args.project.now c.args.caps.now) c.loop-i.i (c.loop-i.i + 1) refl (omega (arith, lasts)) c.loop-i.invariant
    ]

pub returns-clause-none : goal.returns-clause-none
returns-clause-none c =
    let size : c.len-i-end.result ≡ count_of c.args.project.now.network = c.len-i-end.ensures.count ∙ ap count_of c.network-network.ensures.network in
    fit_from_none (planned c.args.project.now c.args.caps.now) c.loop-i.i (omega (arith, size)) c.loop-i.invariant
