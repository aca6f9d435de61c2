use Rattle.std.proofs.Common.{refl}
use Rattle.std.specs.String.{string_bytes}
use Rattle.std.proofs.lemmas.Result.{on_ok_weaker}
use Rattle.plan_gantt.proofs.ShopLineLemmas.{shop_line-read}
use Rattle.plan_gantt.proofs.shops.push_line.Goals as goal

pub returns : goal.returns
returns c =
    on_ok_weaker c.push_row.result (λ row.
    shop_line-read c.args.shop.now c.args.starts.now c.args.x c.machines-machines.result _ c.step-step.result (string_bytes c.args.text.now) (string_bytes c.push_row.new.text)
    c.step-step.ensures.value c.machines-machines.ensures.value refl row) c.push_row.ensures
