use Rattle.std.proofs.Common.{ℕ, ◌≡◌, ◌+◌, ◌-◌, ◌≤◌, ◌<◌, length, get_or, sym, ◌∙◌, ap, subst, arith}
use Rattle.plan_profile.specs.InUse.{in_use, capacities}
use Rattle.plan_profile.specs.Usage.{Fits}
use Rattle.plan_profile.specs.declared.profile.TheConstants.{END}
use Rattle.plan_sgs.specs.Problem.{count, duration}
use Rattle.plan_sgs.specs.Instances.{problem_of}
use Rattle.plan_sgs.proofs.InstanceLemmas.{count-problem, capacities-problem}
use Rattle.plan_report.proofs.DueLemmas.{asked_here, same_duration}
use Rattle.plan_report.proofs.MoveLemmas.{after_from_fits, fits_from_after}
use Rattle.plan_report.proofs.SlackLemmas.{slack_is}
use Rattle.plan_report.proofs.slack.slack_of.Goals as goal

pub overflow_sub-due : goal.overflow_sub-due
overflow_sub-due c =
    let lasts = same_duration c.args.instance.now c.network-network.result.now c.args.j c.duration-d.result
    c.network-network.ensures.network c.requires.activity c.duration-d.ensures.value in
    omega (arith, lasts, c.due_of-due.ensures.ended)

pub longest_fit-requires : goal.longest_fit-requires
longest_fit-requires c = c.needs.ensures.amounts.0 ∙ sym (ap length (capacities-problem c.args.instance.now)) ∙ sym (ap length c.requires.holds.caps)

pub returns-then-d-eq0 : goal.returns-then-d-eq0
returns-then-d-eq0 c =
    let i = c.args.instance.now in
    let p = problem_of i in
    let s = c.args.starts.now in
    let at = c.args.j - 1 in
    let inside : at < count p = omega (arith, c.requires.activity.0, c.requires.activity.1, count-problem i) in
    let lasts : c.duration-d.result ≡ duration p at = same_duration i c.network-network.result.now c.args.j c.duration-d.result
    c.network-network.ensures.network c.requires.activity c.duration-d.ensures.value in
    slack_is p s at c.due_of-due.result (c.due_of-due.result - (get_or s at 0 + c.duration-d.result)) c.requires.feasible inside c.due_of-due.ensures (omega (arith, lasts, c.due_of-due.ensures.ended))
    (λ z most u k begun done more within. absurd (omega (arith, begun, more, lasts, c.if-d-eq0.true)))
    (λ y ends room. omega (arith, ends, lasts, c.due_of-due.ensures.ended))

pub returns : goal.returns
returns c =
    let i = c.args.instance.now in
    let p = problem_of i in
    let s = c.args.starts.now in
    let at = c.args.j - 1 in
    let d = c.duration-d.result in
    let x = c.longest_fit.result in
    let needs = c.needs.result.now in
    let caps = capacities c.args.profile.now in
    let used = in_use c.args.profile.now in
    let is = c.due_of-due.ensures in
    let fit = c.longest_fit.ensures in
    let inside : at < count p = omega (arith, c.requires.activity.0, c.requires.activity.1, count-problem i) in
    let lasts : d ≡ duration p at = same_duration i c.network-network.result.now c.args.j d c.network-network.ensures.network c.requires.activity c.duration-d.ensures.value in
    let some : 0 < duration p at = omega (arith, lasts, c.if-d-eq0.false) in
    let early : c.due_of-due.result ≤ END = omega (arith, is.no_longer, c.requires.makespan, c.requires.ends) in
    let asked = asked_here i c.network-network.result.now s c.args.j END d c.args.profile.now needs
    c.network-network.ensures.network c.requires.activity c.requires.holds c.duration-d.ensures.value c.needs.ensures.row in
    let within : get_or s at 0 + duration p at + x ≤ c.due_of-due.result = omega (arith, lasts, fit.0.0, is.ended) in
    slack_is p s at c.due_of-due.result x c.requires.feasible inside is within
    (after_from_fits p s at x END caps used d needs asked (omega (arith, within, early))
    (subst (λ (n : ℕ). Fits caps used (get_or s at 0 + n) x needs) lasts fit.0.1))
    (λ y ends after. fit.1 y (
      omega (arith, ends, lasts),
      subst (λ (n : ℕ). Fits caps used (get_or s at 0 + n) y needs) (sym lasts)
          (fits_from_after p s at y END caps used d needs asked some (omega (arith, ends, early)) after),
    ))
