use Rattle.std.proofs.Common.{◌≡◌, ◌+◌, ◌++◌, map, take, sym, ap, ◌∙◌, arith}
use Rattle.std.specs.String.{string_bytes}
use Rattle.plan_table.specs.ShopTable.{idle, idle_on, step_of}
use Rattle.plan_table.proofs.NumberedLemmas.{numbered-more}
use Rattle.plan_table.proofs.jobshop.idle.Goals as goal

pub loop-k-preserved : goal.loop-k-preserved
loop-k-preserved c =
    let k = c.loop-k.k in
    let job = map step_of c.args.job.now in
    let machines = c.args.machines.now in
    let number : k ≡ 0 + k = omega arith in
    c.in_ok-push_idle.ensures ∙ ap (λ ss. ss ++ idle_on job k) c.loop-k.invariant
    ∙ ap (λ i. idle (map string_bytes (take k machines)) job ++ idle_on job i) number
    ∙ sym (numbered-more (λ i _. idle_on job i) string_bytes 0 machines k c.index-machines-k.result c.index-machines-k.result (omega arith) c.index-machines-k.is)
