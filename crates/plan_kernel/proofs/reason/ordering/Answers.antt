use Rattle.std.proofs.Common.{◌≡◌, refl, arith}
use Rattle.std.proofs.lemmas.List.Elements.{at_read}
use Rattle.plan_kernel.specs.declared.input.Order.{Order}
use Rattle.plan_kernel.specs.Literals.{no_order}
use Rattle.plan_kernel.proofs.InputLemmas.{count_is}
use Rattle.plan_kernel.proofs.reason.ordering.Goals as goal

pub returns-then-quantity : goal.returns-then-quantity
returns-then-quantity c = (
  c.args.order,
  omega (arith, count_is c.args.input.now, c.saturating_add-quantity.ensures, c.len.ensures, c.if-quantity.true),
  at_read c.args.input.now.orders.items (λ (o : Order). o ≡ c.index-pair.result.now) c.args.order
      c.index-pair.result.now (omega (arith, c.if-place-len.true, c.len-2.ensures)) c.index-pair.ensures refl
      no_order,
  c.if-quantity.true,
)
