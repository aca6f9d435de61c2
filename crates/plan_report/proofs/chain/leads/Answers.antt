use Rattle.std.proofs.Common.{ℕ, ◌+◌, ◌-◌, get_or, Option, None, sym, subst, arith}
use Rattle.std.proofs.lemmas.Bool.{eqb-true, eq-eqb}
use Rattle.plan_sgs.specs.Instances.{problem_of}
use Rattle.plan_report.specs.Chain.{Leads}
use Rattle.plan_report.proofs.DueLemmas.{same_duration}
use Rattle.plan_report.proofs.chain.leads.Goals as goal

pub returns-in-None : goal.returns-in-None
returns-in-None c =
    let i = c.args.instance.now in
    let s = c.args.starts.now in
    let j = c.args.j in
    let lasts = same_duration i c.network.result.now j c.duration.result c.network.ensures.network c.requires.activity c.duration.ensures.value in
    let end = get_or s (j - 1) 0 + c.duration.result in (
      λ yes. subst (λ (x : Option ℕ). Leads (problem_of i) s x (j - 1)) (sym c.in-None.is) (omega (arith, eqb-true end c.args.makespan yes, lasts, c.requires.makespan)),
      λ leads.
          let ends : Leads (problem_of i) s None (j - 1) = subst (λ (x : Option ℕ). Leads (problem_of i) s x (j - 1)) c.in-None.is leads in
          eq-eqb end c.args.makespan (omega (arith, ends, lasts, c.requires.makespan)),
    )
