use Rattle.std.proofs.Common.{rules, ◌≡◌, ◌++◌, ◌∙◌, ap, refl}
use Rattle.std.specs.String.{string_bytes}
use Rattle.jiff.specs.Words.{date_text}
use Rattle.plan_gantt.specs.Column.{column}
use Rattle.plan_gantt.proofs.days.push_day.Goals as goal

pub returns-clause-day : goal.returns-clause-day
returns-clause-day c =
    let spelled : c.deref.result.now ≡ date_text c.in-Ok.date = search rules in (
      column 12 (date_text c.in-Ok.date),
      (c.in-Ok.date, c.in-Ok.ensures.day, refl),
      c.in_ok-push_right.ensures ∙ ap (λ word. string_bytes c.args.text.now ++ column 12 word) spelled,
    )
