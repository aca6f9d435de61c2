use Rattle.std.proofs.Common.{ℕ, ◌≡◌, ◌+◌, ◌*◌, ◌<◌, get_or, length, sym, ◌∙◌, ap, arith, rules}
use Rattle.std.proofs.lemmas.Option.{get_or_from_slice_get}
use Rattle.plan_orlib.specs.declared.steps.Step.{Step}
use Rattle.plan_sgs.specs.Problem.{greatest_below, count, duration}
use Rattle.plan_shop.specs.Shop.{idle, problem_of, time_of}
use Rattle.plan_shop.proofs.ShopBasics.{count_is, duration_is}
use Rattle.plan_report.proofs.MakespanLemmas.{greatest_more}
use Rattle.plan_report.proofs.makespans.shop_makespan_of.Goals as goal

pub loop-x-preserved : goal.loop-x-preserved
loop-x-preserved c =
    let shop = c.args.shop.now in
    let x = c.loop-x.x in
    let taken : c.step.result.time ≡ time_of shop x =
    sym (ap (λ (w : Step). w.time) (get_or_from_slice_get shop.steps x c.step.result idle c.step.ensures.value)) in
    let lasts = taken ∙ sym (duration_is shop x) in
    let more = greatest_more x (λ h. get_or c.args.starts.now h 0 + duration (problem_of shop) h) in
    let low : x < length c.args.starts.now = search rules in
    let early = c.requires.limit x 0 low in
    record {
      greatest = omega (arith, lasts, c.max-latest.ensures, c.loop-x.invariant.greatest, more);
      ends = omega (arith, early, c.step.ensures.short, c.max-latest.ensures, c.loop-x.invariant.ends);
    }

pub returns-clause-value : goal.returns-clause-value
returns-clause-value c =
    let shop = c.args.shop.now in
    let size : c.jobs.result * c.machines.result ≡ length shop.steps =
    ap (λ (n : ℕ). n * c.machines.result) c.jobs.ensures.value ∙ ap (λ (n : ℕ). shop.jobs * n) c.machines.ensures.value
    ∙ sym c.machines.ensures.shop.shop.all_steps in
    let all : c.loop-x.x ≡ count (problem_of shop) = omega (arith, size, count_is shop) in
    c.loop-x.invariant.greatest ∙ ap (λ (n : ℕ). greatest_below n (λ h. get_or c.args.starts.now h 0 + duration (problem_of shop) h)) all
