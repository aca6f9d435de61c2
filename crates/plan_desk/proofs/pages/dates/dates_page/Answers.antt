use Rattle.std.proofs.Common.{subst}
use Rattle.std.specs.Prelude.{string_bytes}
use Rattle.plan_gantt.specs.DateTable.{IsDateText}
use Rattle.plan_desk.specs.Replies.{reply_of}
use Rattle.plan_desk.proofs.PageLemmas.{found_sound, no_page, dates_shown, dates_refused}
use Rattle.plan_desk.proofs.pages.dates.dates_page.Goals as goal

pub returns-in_err-project-in-Project : goal.returns-in_err-project-in-Project
returns-in_err-project-in-Project c =
    no_page _ _ c.from_residual.result c.in_err-project-in-Project.field-0.0 c.from_residual.ensures.1
    (λ blamed v n found k. c.in_err-project-in-Project.ensures.blamed blamed ((found_sound c.args.plan.now v n found k).project c.in-Project.is))

pub returns-in_ok-date_text-in-Project : goal.returns-in_ok-date_text-in-Project
returns-in_ok-date_text-in-Project c = record {
  shown = dates_shown c.args.plan.now c.in_ok-project-in-Project.project (string_bytes c.in_ok-date_text-in-Project.field-0) (reply_of c.page.result) c.in-Project.is
      c.in_ok-project-in-Project.ensures.ok
      (subst (λ net. IsDateText net (string_bytes c.in_ok-date_text-in-Project.field-0)) c.network.ensures.network c.in_ok-date_text-in-Project.ensures)
      c.page.ensures;
  blamed = tt;
}

pub returns-in-Shop : goal.returns-in-Shop
returns-in-Shop c = record {
  shown = dates_refused c.args.plan.now (reply_of c.other_kind.result) c.in-Shop.is c.other_kind.ensures;
  blamed = tt;
}
