use Rattle.plan_documents.specs.Plans.{IsOfShop}
use Rattle.plan_cli.specs.ShopRun.{IsShopTableOf, TellsWhyNoShop}
use Rattle.plan_cli.specs.Tables.{IsTableBy}
use Rattle.plan_documents.specs.declared.documents.Plan.TheVariants as plan
use Rattle.plan_cli.proofs.PlanLemmas.{table_of_shop, same_line}
use Rattle.plan_cli.proofs.RunLemmas.{front_as, text_as}
use Rattle.plan_cli.proofs.runs.shop_run.Goals as goal

pub returns : goal.returns
returns g c =
    let name = c.args.rule.now in
    let instance = c.args.instance.now in
    let no_line = TellsWhyNoShop name instance in
    let e = c.run_task.ensures in
    record {
      reads = e.reads;
      writes = e.writes;
      text = text_as (IsOfShop instance (λ s. IsTableBy name (plan.Shop s))) (IsShopTableOf name instance) no_line no_line
          _ _ _ _ (table_of_shop name instance) (same_line no_line) e.text;
      front = front_as (IsOfShop instance (λ s. IsTableBy name (plan.Shop s))) (IsShopTableOf name instance) no_line no_line
          _ _ _ _ _ (table_of_shop name instance) (same_line no_line) e.front;
      quiet = e.quiet;
      fine = e.fine;
      heard = e.heard;
      unread = e.unread;
      input = e.input;
      output = e.output;
    }
