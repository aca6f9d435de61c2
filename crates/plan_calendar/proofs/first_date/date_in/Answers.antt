use Rattle.std.proofs.Common.{◌≡◌}
use Rattle.plan_calendar.specs.CalendarText.{HasNoStart, date_bytes}
use Rattle.plan_calendar.proofs.TextLemmas.{same_parts, none_weaker}
use Rattle.plan_calendar.proofs.first_date.date_in.Goals as goal

pub returns-clause-none : goal.returns-clause-none
returns-clause-none c =
    let parts = c.in_ok-parts.parts in
    let text : c.args.text.now ≡ date_bytes parts.year parts.month parts.day = c.in_ok-parts.ensures.some in
    none_weaker c.date_of.result _ (HasNoStart c.args.text.now) (λ none date start.
    let same = same_parts c.args.text.now parts.year parts.month parts.day date text start in
    none date same.0 same.1 same.2) c.date_of.ensures.none
