use Rattle.std.proofs.Common.{◌≡◌, ◌+◌, ◌++◌, ap, ◌∙◌, arith}
use Rattle.std.specs.String.{string_bytes}
use Rattle.plan_table.specs.ShopText.{machine_line}
use Rattle.plan_table.proofs.NumberedLemmas.{next_line}
use Rattle.plan_table.proofs.jobshop.push_machine_lines.Goals as goal

pub loop-k-preserved : goal.loop-k-preserved
loop-k-preserved c =
    let k = c.loop-k.k in
    let text = string_bytes c.loop-k.text in
    let name = string_bytes c.index-machines-k.result in
    let number : k ≡ k + 0 = omega arith in
    next_line machine_line string_bytes 0 c.args.machines.now k c.index-machines-k.result _ text _
    (omega arith) c.index-machines-k.is c.loop-k.invariant
    (c.in_ok-push_machine_line.ensures ∙ ap (λ bytes. text ++ machine_line k bytes) c.as_str.ensures.value ∙ ap (λ i. text ++ machine_line i name) number)
