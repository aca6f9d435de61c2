-- The error of a name that no rule has.
use Rattle.std.proofs.Common.{◌≡◌, ℕ, List, [], codes, refl}
use Rattle.plan_sgs.specs.Instances.{Planned}
use Rattle.plan_sgs.specs.Keys.{RefusesWord}
use Rattle.plan_sgs.specs.declared.fault.SgsFault.{SgsFault}
use Rattle.plan_sgs.specs.declared.fault.SgsFault.TheVariants as sgs
use Rattle.plan_shop.specs.Names as shop_names
use Rattle.plan_shop.specs.declared.fault.ShopFault.{ShopFault}
use Rattle.plan_shop.specs.declared.fault.ShopFault.TheVariants as shops
use Rattle.plan_gantt.specs.ShopText.{TellsNoRule}
use Rattle.plan_errors.specs.Output.{Refuses}
use Rattle.plan_errors.specs.declared.fault.CliFault.{CliFault}
use Rattle.plan_cli.specs.Scheduled.{TellsNoRuleOf}
use Rattle.plan_documents.specs.declared.documents.Plan.TheVariants as plan
use Rattle.plan_documents.proofs.ErrorLemmas.{refuses_as}

-- no rule of projects has the name
pub no_rule : (name : List ℕ) (i : Planned) (first : SgsFault) (e : CliFault)
    → RefusesWord name first → Refuses (λ line. line ≡ codes "S3 unknown rule") e
    → Refuses (TellsNoRuleOf name (plan.Project i [])) e
no_rule name i first e refused told =
    refuses_as (λ line. line ≡ codes "S3 unknown rule") (TellsNoRuleOf name (plan.Project i [])) e
    (λ line is. (sgs.UnknownRule, (refl, refused.1), is)) told

-- no rule of job shops has the name
pub no_shop_rule : (name : List ℕ) (first : ShopFault) (e : CliFault)
    → shop_names.RefusesWord name first → Refuses (λ line. line ≡ codes "S3 unknown rule") e
    → Refuses (TellsNoRule name) e
no_shop_rule name first e refused told =
    refuses_as (λ line. line ≡ codes "S3 unknown rule") (TellsNoRule name) e
    (λ line is. (shops.UnknownRule, (refl, refused.1), is)) told
