use Rattle.std.proofs.Common.{◌∙◌, ap}
use Rattle.std.specs.Prelude.{string_bytes}
use Rattle.std.proofs.lemmas.Result.{MatchResult-at_ok, MatchResult-at_err}
use Rattle.plan_desk.specs.Refusals.{bad_schedule}
use Rattle.plan_desk.specs.Replies.{reply_of}
use Rattle.plan_desk.specs.Scheduled.{IsScheduled, TellsUnscheduled}
use Rattle.plan_desk.proofs.PageLemmas.{bound_sound, no_page, days_made, days_refused}
use Rattle.plan_desk.proofs.pages.days.days_page.Goals as goal

pub returns-in_err-made : goal.returns-in_err-made
returns-in_err-made c =
    no_page _ _ c.from_residual.result c.in_err-made.field-0.0 c.from_residual.ensures.1
    (λ blamed v n is k. c.in_err-made.ensures.blamed blamed (bound_sound c.args.bound.now v n is k))

pub returns-in-Ok : goal.returns-in-Ok
returns-in-Ok c =
    days_made c.args.bound.now c.args.rule.now c.in-Ok.made c.days_of.result
    (MatchResult-at_ok (IsScheduled c.args.bound.now c.args.rule.now) (λ line. TellsUnscheduled c.args.bound.now c.args.rule.now (string_bytes line))
    c.in-Ok.made c.in-Ok.is c.in_ok-made.ensures.made)
    c.days_of.ensures.shown c.days_of.ensures.blamed

pub returns-in_ok-bad_schedule-in-Err : goal.returns-in_ok-bad_schedule-in-Err
returns-in_ok-bad_schedule-in-Err c = record {
  shown = days_refused c.args.bound.now c.args.rule.now (string_bytes c.in-Err.line) (reply_of c.in_ok-bad_schedule-in-Err.field-0)
      (MatchResult-at_err (IsScheduled c.args.bound.now c.args.rule.now) (λ line. TellsUnscheduled c.args.bound.now c.args.rule.now (string_bytes line))
      c.in-Err.line c.in-Err.is c.in_ok-made.ensures.made)
      (c.in_ok-bad_schedule-in-Err.ensures ∙ ap bad_schedule c.as_str.ensures.value);
  blamed = tt;
}
