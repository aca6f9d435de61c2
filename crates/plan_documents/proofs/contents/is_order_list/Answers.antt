use Rattle.std.proofs.Common.{sym, subst, ◌∙◌}
use Rattle.plan_table.specs.Reading.{Fails}
use Rattle.plan_table.specs.ShopReading.{shop_table_read}
use Rattle.plan_table.specs.declared.fault.ReadError.{ReadError}
use Rattle.plan_documents.proofs.ContentsLemmas.{orders_refused}
use Rattle.plan_documents.proofs.contents.is_order_list.Goals as goal

pub returns : goal.returns
returns c = λ is.
    orders_refused c.args.text.now c.in-Err-Fault.fault
    (subst (λ (e : ReadError). Fails e (shop_table_read c.args.text.now)) c.in-Err-Fault.field-0-is c.in-Err-Fault.ensures.refused)
    (sym c.is_in_orders.ensures ∙ is)
