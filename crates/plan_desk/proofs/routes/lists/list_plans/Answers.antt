use Rattle.std.proofs.Common.{ap, ◌∙◌}
use Rattle.plan_rows.specs.Views.{view}
use Rattle.plan_desk.specs.Calls.{answer}
use Rattle.plan_desk.specs.Outcomes.{tells}
use Rattle.plan_desk.specs.JsonTexts.{plans_text}
use Rattle.plan_desk.proofs.DecidingLemmas.{found_by}
use Rattle.plan_desk.proofs.RouteLemmas.{decides_kept, tells_so}
use Rattle.plan_desk.proofs.AnswerLemmas.{listed_plans}
use Rattle.plan_desk.specs.Answers.{list_of_plans}
use Rattle.plan_desk.proofs.routes.lists.list_plans.Goals as goal

pub returns : goal.returns
returns g c =
    let desk = c.args.desk.now in
    let w = g.B.Book.shelf.world c.args.book.now in
    found_by g.B.Book.shelf _ _ c.args.book.now c.plans.new.self c.in_ok-rows.rows c.without_change.result c.in_ok-rows.ensures
    (λ is. decides_kept desk desk (λ v. tells (plans_text v.plans))
    (view desk w) c.without_change.result c.in_ok-reply.reply _ c.without_change.ensures.reply
    c.without_change.ensures.change c.in_ok-reply.ensures
    (tells_so _ _ (ap (answer 200) (ap list_of_plans c.deref.ensures.value ∙ listed_plans (view desk w).plans c.in_ok-rows.rows.items is))))
