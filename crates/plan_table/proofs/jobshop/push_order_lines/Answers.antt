use Rattle.std.proofs.Common.{◌+◌, ◌++◌, ap, ◌∙◌, arith}
use Rattle.std.specs.String.{string_bytes}
use Rattle.plan_table.specs.ShopText.{order_line}
use Rattle.plan_table.proofs.NumberedLemmas.{next_line}
use Rattle.plan_table.proofs.jobshop.push_order_lines.Goals as goal

pub loop-k-preserved : goal.loop-k-preserved
loop-k-preserved c =
    let k = c.loop-k.k in
    let text = string_bytes c.loop-k.text in
    next_line order_line string_bytes 1 c.args.orders.now k c.index-orders-k.result _ text _
    (omega arith) c.index-orders-k.is c.loop-k.invariant
    (c.in_ok-push_order_line.ensures ∙ ap (λ bytes. text ++ order_line (k + 1) bytes) c.as_str.ensures.value)
