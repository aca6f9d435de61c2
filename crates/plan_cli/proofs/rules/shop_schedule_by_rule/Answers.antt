use Rattle.std.proofs.Common.{rules, ◌≡◌, IfOk}
use Rattle.plan_sgs.specs.Problem.{IsActive}
use Rattle.plan_shop.specs.Shop.{problem_of}
use Rattle.plan_gantt.specs.ShopText.{rule_starts}
use Rattle.plan_cli.specs.Scheduled.{IsShowable}
use Rattle.plan_documents.specs.declared.documents.Plan.TheVariants as plan
use Rattle.plan_orlib.proofs.NameLemmas.{mapped}
use Rattle.plan_cli.proofs.ScheduledLemmas.{shop_shown_by}
use Rattle.plan_cli.proofs.rules.shop_schedule_by_rule.Goals as goal

pub returns-clause-starts : goal.returns-clause-starts
returns-clause-starts c =
    mapped c.giffler.result c.map_err.result _ (λ made. IfOk made (λ m. m.starts.items ≡ rule_starts c.args.rule c.args.shop.now))
    c.map_err.ensures.cases (λ schedule is. search rules) (λ fault e is learnt. tt)

pub returns-clause-active : goal.returns-clause-active
returns-clause-active c =
    mapped c.giffler.result c.map_err.result _ (λ made. IfOk made (λ m. IsActive (problem_of c.args.shop.now) m.starts.items))
    c.map_err.ensures.cases (λ schedule is. search rules) (λ fault e is learnt. tt)

pub returns-clause-showable : goal.returns-clause-showable
returns-clause-showable c =
    mapped c.giffler.result c.map_err.result _ (λ made. IfOk made (IsShowable (plan.Shop c.args.shop.now)))
    c.map_err.ensures.cases
    (λ schedule is. shop_shown_by c.args.shop.now schedule c.machines-machines.ensures.shop (search rules) (search rules) (search rules))
    (λ fault e is learnt. tt)
