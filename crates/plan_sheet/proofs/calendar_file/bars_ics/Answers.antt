use Rattle.std.proofs.Common.{◌≡◌, inl, inr, rules, subst, ap, ap₂, ◌∙◌}
use Rattle.std.specs.List.{AllZip}
use Rattle.plan_sheet.specs.Bars.{greatest_end}
use Rattle.plan_sheet.specs.Days.{AreDays, HasDayBeyond, HasLastDay, IsDayAfter}
use Rattle.plan_sheet.specs.Feed.{events_of, ics_text, work_of}
use Rattle.plan_sheet.specs.Ics.{are_short}
use Rattle.plan_sheet.specs.Moments.{day_count}
use Rattle.plan_sheet.proofs.FoldLemmas.{short_file}
use Rattle.plan_sheet.proofs.calendar_file.bars_ics.Goals as goal

pub returns-clause-text : goal.returns-clause-text
returns-clause-text c =
    let count : c.day_count-count.result ≡ day_count (events_of c.args.events.now).hours (greatest_end c.args.bars.now) = cc in record {
      days = c.in_ok-days.days.items;
      are = subst (λ n. AreDays c.args.calendar.now n c.in_ok-days.days.items) count c.in_ok-days.ensures.days;
      nexts = c.in_ok-nexts.nexts.items;
      follow = subst (λ ds. AllZip IsDayAfter ds c.in_ok-nexts.nexts.items) c.deref.ensures.value c.in_ok-nexts.ensures.nexts;
      shown = c.in_ok-text.ensures
          ∙ ap₂ (λ ds ns. ics_text (record { work = work_of c.args.work.now; events = events_of c.args.events.now; days = ds; nexts = ns }) c.args.bars.now)
          c.deref-2.ensures.value c.deref-3.ensures.value;
    }

pub returns-clause-short : goal.returns-clause-short
returns-clause-short c =
    ap (are_short 0)
    (c.in_ok-text.ensures
    ∙ ap₂ (λ ds ns. ics_text (record { work = work_of c.args.work.now; events = events_of c.args.events.now; days = ds; nexts = ns }) c.args.bars.now)
    c.deref-2.ensures.value c.deref-3.ensures.value)
    ∙ short_file (record { work = work_of c.args.work.now; events = events_of c.args.events.now; days = c.in_ok-days.days.items; nexts = c.in_ok-nexts.nexts.items }) c.args.bars.now

pub returns-in_err-days-clause-beyond : goal.returns-in_err-days-clause-beyond
returns-in_err-days-clause-beyond c is =
    let count : c.day_count-count.result ≡ day_count (events_of c.args.events.now).hours (greatest_end c.args.bars.now) = cc in
    inl (subst (λ n. HasDayBeyond c.args.calendar.now n) count (c.working_days.ensures.beyond (search rules)))

pub returns-in_err-nexts-clause-beyond : goal.returns-in_err-nexts-clause-beyond
returns-in_err-nexts-clause-beyond c is =
    let count : c.day_count-count.result ≡ day_count (events_of c.args.events.now).hours (greatest_end c.args.bars.now) = cc in
    inr (
      c.in_ok-days.days.items,
      subst (λ n. AreDays c.args.calendar.now n c.in_ok-days.days.items) count c.in_ok-days.ensures.days,
      subst (λ ds. HasLastDay ds) c.deref.ensures.value (c.days_after.ensures.beyond (search rules)),
    )
