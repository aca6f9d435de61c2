use Rattle.std.proofs.Common.{◌∙◌, ap}
use Rattle.std.specs.Prelude.{string_bytes}
use Rattle.std.proofs.lemmas.Result.{MatchResult-at_ok, MatchResult-at_err}
use Rattle.plan_desk.specs.Refusals.{bad_schedule}
use Rattle.plan_desk.specs.Replies.{reply_of}
use Rattle.plan_desk.specs.BestOf.{IsBestOf, TellsNoBest}
use Rattle.plan_desk.proofs.PageLemmas.{bound_sound, no_page, best_shown, best_refused}
use Rattle.plan_desk.proofs.pages.best.best_page.Goals as goal

pub returns-in_err-text : goal.returns-in_err-text
returns-in_err-text c =
    no_page _ _ c.from_residual.result c.in_err-text.field-0.0 c.from_residual.ensures.1
    (λ blamed v n is k. c.in_err-text.ensures.blamed blamed (bound_sound c.args.bound.now v n is k))

pub returns-in-Ok : goal.returns-in-Ok
returns-in-Ok c = record {
  shown = best_shown c.args.bound.now c.args.budget.now (string_bytes c.in-Ok.text) (reply_of c.page.result)
      (MatchResult-at_ok (λ text. IsBestOf c.args.bound.now c.args.budget.now (string_bytes text)) (λ line. TellsNoBest c.args.bound.now c.args.budget.now (string_bytes line))
      c.in-Ok.text c.in-Ok.is c.in_ok-text.ensures.made)
      c.page.ensures;
  blamed = tt;
}

pub returns-in_ok-bad_schedule-in-Err : goal.returns-in_ok-bad_schedule-in-Err
returns-in_ok-bad_schedule-in-Err c = record {
  shown = best_refused c.args.bound.now c.args.budget.now (string_bytes c.in-Err.line) (reply_of c.in_ok-bad_schedule-in-Err.field-0)
      (MatchResult-at_err (λ text. IsBestOf c.args.bound.now c.args.budget.now (string_bytes text)) (λ line. TellsNoBest c.args.bound.now c.args.budget.now (string_bytes line))
      c.in-Err.line c.in-Err.is c.in_ok-text.ensures.made)
      (c.in_ok-bad_schedule-in-Err.ensures ∙ ap bad_schedule c.as_str.ensures.value);
  blamed = tt;
}
