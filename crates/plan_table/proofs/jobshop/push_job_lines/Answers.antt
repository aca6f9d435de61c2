use Rattle.std.proofs.Common.{◌≡◌, ◌+◌, ◌++◌, ap, ◌∙◌, arith}
use Rattle.std.specs.String.{string_bytes}
use Rattle.plan_table.specs.ShopText.{job_line}
use Rattle.plan_table.proofs.NumberedLemmas.{next_line}
use Rattle.plan_table.proofs.jobshop.push_job_lines.Goals as goal

pub loop-k-preserved : goal.loop-k-preserved
loop-k-preserved c =
    let k = c.loop-k.k in
    let number : k ≡ k + 0 = omega arith in
    next_line (λ i _. job_line c.args.table.now i) string_bytes 0 c.args.orders.now k c.index-orders-k.result _ (string_bytes c.loop-k.text) _
    (omega arith) c.index-orders-k.is c.loop-k.invariant
    (c.in_ok-push_job_line.ensures ∙ ap (λ i. string_bytes c.loop-k.text ++ job_line c.args.table.now i) number)
