use Rattle.std.proofs.Common.{◌≡◌, ◌+◌, ◌-◌, get_or, false, refl, sym, ◌∙◌, ap, subst, arith}
use Rattle.std.proofs.lemmas.Bool.{both_ways, eqb-true, eq-eqb}
use Rattle.plan_net.specs.Network.{Net, IsArc, lag_of}
use Rattle.plan_report.proofs.DueLemmas.{same_duration}
use Rattle.plan_report.proofs.LinkLemmas.{tight_from, tight_arc}
use Rattle.plan_report.proofs.chain.is_tight.Goals as goal

pub returns-in-Some : goal.returns-in-Some
returns-in-Some c =
    let i = c.args.instance.now in
    let s = c.args.starts.now in
    let a = c.args.i in
    let b = c.args.j in
    let is = c.network-network.ensures.network in
    let lasts = same_duration i c.network-network.result.now a c.duration.result is c.requires.before c.duration.ensures.value in
    let lag : c.in-Some.lag ≡ lag_of i.project.network a b = c.in-Some.ensures.some.1 ∙ ap (λ (net : Net). lag_of net a b) is in
    let arc : IsArc i.project.network a b = subst (λ (net : Net). IsArc net a b) is c.in-Some.ensures.some.0 in
    let end = get_or s (a - 1) 0 + c.duration.result + c.in-Some.lag in
    let start = get_or s (b - 1) 0 in (
      λ yes. tight_from i s a b arc (omega (arith, eqb-true end start yes, lasts, lag)),
      λ tight.
          let is_tight = tight_arc i s a b c.network-network.ensures.instance.project.network c.requires.before c.requires.after tight in
          eq-eqb end start (omega (arith, is_tight.1, lasts, lag)),
    )

pub returns-in-None : goal.returns-in-None
returns-in-None c =
    let i = c.args.instance.now in
    let s = c.args.starts.now in
    let a = c.args.i in
    let b = c.args.j in (
      λ no. absurd (both_ways false refl no),
      λ tight.
          let is_tight = tight_arc i s a b c.network-network.ensures.instance.project.network c.requires.before c.requires.after tight in
          absurd (c.in-None.ensures.none (subst (λ (net : Net). IsArc net a b) (sym c.network-network.ensures.network) is_tight.0)),
    )
