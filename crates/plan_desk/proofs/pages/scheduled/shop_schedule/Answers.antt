use Rattle.std.proofs.Common.{subst, sym, ap, ◌∙◌}
use Rattle.plan_shop.specs.Docs.{NoneIsClosed, shop_of}
use Rattle.plan_desk.specs.Scheduled.{IsMadeOfShop}
use Rattle.plan_desk.proofs.MadeLemmas.{made_of_shop}
use Rattle.plan_desk.proofs.pages.scheduled.shop_schedule.Goals as goal

pub returns-clause-ok : goal.returns-clause-ok
returns-clause-ok c =
    subst (λ s. IsMadeOfShop s c.args.usable.now c.args.rule.now c.in_ok-schedule.schedule) (c.in_ok-shop.ensures.ok ∙ ap shop_of c.document.ensures)
    (made_of_shop c.in_ok-shop.shop c.args.usable.now c.args.rule.now c.in_ok-rule.rule c.in_ok-schedule.schedule c.machines-machines.ensures.shop c.in_ok-rule.ensures.ok
    (subst (λ s. NoneIsClosed s.steps c.args.usable.now) (sym c.in_ok-shop.ensures.ok) c.in_ok-shop.ensures.open)
    c.in_ok-schedule.ensures.starts c.in_ok-schedule.ensures.active c.in_ok-schedule.ensures.makespan c.in_ok-schedule.ensures.within)
