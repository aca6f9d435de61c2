use Rattle.std.proofs.Common.{map, string_bytes, subst, ap, ◌∙◌}
use Rattle.std.specs.Prelude.{IfOk}
use Rattle.plan_sheet.specs.Bars.{greatest_end}
use Rattle.plan_sheet.specs.Feed.{AreEvents, HasEventBeyond, events_of}
use Rattle.plan_sheet.specs.Layouts.{bars_of, layout_of}
use Rattle.plan_sheet.specs.Moments.{day_count}
use Rattle.plan_sheet.specs.Parts.{event_names_of}
use Rattle.plan_sheet.proofs.events.ics_file.Goals as goal

pub returns-clause-text : goal.returns-clause-text
returns-clause-text c =
    let rows = ap (map (λ row. row.now)) c.deref.ensures.value ∙ c.in_ok-needs.ensures in
    subst (λ needs. IfOk c.bars_ics.result (λ text. AreEvents
    (record { digest = c.args.digest.now; names = event_names_of c.args.names.now; needs = needs })
    (events_of c.args.events.now) (bars_of (layout_of c.args.layout) c.args.starts.now) c.args.calendar.now (string_bytes text)))
    rows
    (subst (λ bs. IfOk c.bars_ics.result (λ text. AreEvents
    (record { digest = c.args.digest.now; names = event_names_of c.args.names.now; needs = map (λ row. row.now) c.deref.result.now })
    (events_of c.args.events.now) bs c.args.calendar.now (string_bytes text)))
    (c.deref-2.ensures.value ∙ c.in_ok-bars.ensures) c.bars_ics.ensures.text)

pub returns-clause-beyond : goal.returns-clause-beyond
returns-clause-beyond c is =
    subst (λ bs. HasEventBeyond c.args.calendar.now (day_count (events_of c.args.events.now).hours (greatest_end bs)))
    (c.deref-2.ensures.value ∙ c.in_ok-bars.ensures) (c.bars_ics.ensures.beyond is)
