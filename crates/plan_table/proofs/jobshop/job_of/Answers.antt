use Rattle.std.proofs.Common.{map, length, take, sym, ap, ◌∙◌}
use Rattle.std.specs.String.{string_bytes}
use Rattle.std.proofs.lemmas.List.{length-map}
use Rattle.plan_table.specs.ShopTable.{idle, step_of, steps_of}
use Rattle.plan_table.proofs.ShopWriteLemmas.{job_padded}
use Rattle.plan_table.proofs.jobshop.job_of.Goals as goal

pub returns : goal.returns
returns c =
    let names = map string_bytes c.args.machines.now in
    job_padded names c.in_ok-job.job.items c.in_ok-idle.idle.items c.first_steps.result.now c.extend_from_slice.new.self.items
    (steps_of c.args.order c.args.steps.now) (length c.args.machines.now) (length c.as_slice.result.now) c.saturating_sub-missing.result
    c.in_ok-job.ensures (c.in_ok-idle.ensures ∙ ap (λ ss. idle names (map step_of ss)) c.deref.ensures.value)
    (c.first_steps.ensures ∙ ap (λ ss. take c.saturating_sub-missing.result ss) c.deref-2.ensures.value)
    c.in_ok-extend_from_slice.ensures.items (sym (length-map c.args.machines.now string_bytes)) (ap length c.as_slice.ensures.value) c.saturating_sub-missing.ensures
