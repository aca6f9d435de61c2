use Rattle.std.proofs.Common.{codes, string_bytes}
use Rattle.std.proofs.lemmas.Result.{on_ok_weaker}
use Rattle.plan_sheet.specs.Ics.{property}
use Rattle.plan_sheet.proofs.PieceLemmas.{two_pieces}
use Rattle.plan_sheet.proofs.ics.push_event_days.Goals as goal

pub returns : goal.returns
returns c =
    let start = property (codes "DTSTART;VALUE=DATE:") c.args.first_day.now in
    let stop = property (codes "DTEND;VALUE=DATE:") c.args.end_day.now in
    let before = string_bytes c.args.text.now in
    let between = string_bytes c.push_property.new.text in
    on_ok_weaker c.push_property-2.result
    (two_pieces before between (string_bytes c.push_property-2.new.text) start stop c.in_ok-push_property.ensures)
    c.push_property-2.ensures
