-- The law of instants and working days.
use Rattle.std.proofs.Common.{◌≡◌, ℕ, suc, ◌+◌, true, sym, ◌∙◌, ap, arith, pos, ℤ, ◌+ℤ◌, ◌-ℤ◌}
use Rattle.jiff_core.specs.Date.{epoch_day}
use Rattle.jiff_core.specs.declared.civil.date.Date.{Date}
use Rattle.jiff_core.proofs.SignedLemmas.{signed_arith}
use Rattle.plan_calendar.specs.WorkingDay.{IsWorkingDay, Workdays, is_working, one_if, working_days}
use Rattle.plan_calendar.proofs.IndexLemmas.{days_more}
use Rattle.plan_weekdates.specs.InstantLaws.{DaysHaveTheirInstants}
use Rattle.plan_weekdates.specs.Instants.{instant_before, instant_behind, not_negative, working_before}

begins : (calendar : Workdays) (t : ℕ) (date : Date) → IsWorkingDay calendar t date → instant_before calendar date ≡ t
unfolding working_before
begins calendar t date day =
    let after = day.after in
    let days : epoch_day date -ℤ epoch_day calendar.start ≡ pos day.days = omega (arith, signed_arith, after) in
    ap (λ n. working_days calendar (epoch_day calendar.start) (not_negative n)) days ∙ day.before

ends : (calendar : Workdays) (t : ℕ) (date : Date) → IsWorkingDay calendar t date → instant_behind calendar date ≡ t + 1
unfolding working_before
ends calendar t date day =
    let after = day.after in
    let days : (epoch_day date +ℤ pos 1) -ℤ epoch_day calendar.start ≡ pos (suc day.days) = omega (arith, signed_arith, after) in
    let working : is_working calendar (epoch_day calendar.start +ℤ pos day.days) ≡ true = ap (is_working calendar) (sym day.after) ∙ day.working in
    ap (λ n. working_days calendar (epoch_day calendar.start) (not_negative n)) days
    ∙ days_more calendar (epoch_day calendar.start) day.days
    ∙ ap (λ w. working_days calendar (epoch_day calendar.start) day.days + one_if w) working
    ∙ ap (λ n. n + 1) day.before

pub days_have_their_instants : DaysHaveTheirInstants
unfolding DaysHaveTheirInstants
days_have_their_instants calendar t date day = (begins calendar t date day, ends calendar t date day)
