use Rattle.std.proofs.Common.{◌≡◌, ◌*◌, [], ◌∷◌, ◌++◌, length, get_or, inl, inr, ap, sym, ◌∙◌, arith}
use Rattle.std.proofs.lemmas.Bool.{cases_lt}
use Rattle.std.proofs.lemmas.List.{length-append, get_or_append_left, get_or_at}
use Rattle.plan_active.proofs.shops.first_steps.Goals as goal

pub loop-job-init : goal.loop-job-init
loop-job-init c = record { size = ap length c.new-next.ensures.items; each = λ j l. absurd (omega (arith, l)) }

pub loop-job-preserved : goal.loop-job-preserved
loop-job-preserved c =
    let old = c.loop-job.next.items in
    let job = c.loop-job.job in
    let v = job * c.machines.result in
    let e = c.in_ok-push.ensures.items in
    record {
      size = omega (arith, ap length e, length-append old (v ∷ []), c.loop-job.invariant.size);
      each = λ j l. elim (cases_lt j job) [
        | inl before ↦ ap (λ xs. get_or xs j 0) e ∙ get_or_append_left old (v ∷ []) 0 j (omega (arith, before, c.loop-job.invariant.size)) ∙ c.loop-job.invariant.each j before
        | inr last ↦
            let same : j ≡ job = omega (arith, l, last) in
            ap (λ xs. get_or xs j 0) e ∙ ap (λ i. get_or (old ++ v ∷ []) i 0) same ∙ get_or_at old v [] 0 job c.loop-job.invariant.size
            ∙ ap (λ m. job * m) c.machines.ensures.value ∙ ap (λ i. i * c.args.shop.now.machines) (sym same)
      ];
    }

pub returns : goal.returns
returns c = record {
  size = omega (arith, c.loop-job.invariant.size, c.loop-job-test.false, c.loop-job.auto.job-end, c.jobs-job-end.ensures.value);
  each = λ j l. omega (arith, c.loop-job.invariant.each j (omega (arith, l, c.loop-job-test.false, c.jobs-job-end.ensures.value)));
}
