use Rattle.std.proofs.Common.{◌≡◌, ℕ, ◌++◌, ◌∙◌, refl, ap, subst, arith}
use Rattle.std.specs.String.{string_bytes}
use Rattle.std.proofs.lemmas.List.{append_assoc}
use Rattle.std.proofs.lemmas.Result.{on_ok_weaker}
use Rattle.plan_shop.specs.Shop.{count_steps}
use Rattle.plan_gantt.specs.Column.{lines_from}
use Rattle.plan_gantt.specs.ScheduleTable.{makespan_line}
use Rattle.plan_gantt.specs.ShopTable.{shop_heading, shop_line}
use Rattle.plan_gantt.proofs.CellLemmas.{next_cell}
use Rattle.plan_gantt.proofs.shops.push_shop_table.Goals as goal

pub loop-x-preserved : goal.loop-x-preserved
loop-x-preserved c = next_cell (string_bytes c.push_str.new.self) (shop_line c.args.shop.now c.args.starts.now) c.loop-x.x _ _ _ c.loop-x.invariant refl c.in_ok-push_line.ensures

pub returns : goal.returns
returns c =
    let before = string_bytes c.args.text.now in
    let lines = lines_from (shop_line c.args.shop.now c.args.starts.now) 0 (count_steps c.args.shop.now) in
    let whole : c.loop-x.x ≡ count_steps c.args.shop.now = omega arith in
    let so_far : string_bytes c.loop-x.text ≡ (before ++ shop_heading) ++ lines =
    subst (λ (n : ℕ). string_bytes c.loop-x.text ≡ string_bytes c.push_str.new.self ++ lines_from (shop_line c.args.shop.now c.args.starts.now) 0 n) whole c.loop-x.invariant
    ∙ ap (λ bytes. bytes ++ lines) c.in_ok-push_str.ensures.bytes in
    on_ok_weaker c.push_makespan.result (λ last.
    last ∙ ap (λ bytes. bytes ++ makespan_line c.args.makespan) so_far
    ∙ append_assoc (before ++ shop_heading) lines (makespan_line c.args.makespan) ∙ append_assoc before shop_heading (lines ++ makespan_line c.args.makespan)) c.push_makespan.ensures
