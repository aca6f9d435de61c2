use Rattle.std.proofs.Common.{rules, ◌≡◌, List, ℕ}
use Rattle.std.proofs.lemmas.Result.{err_from_is_err_and}
use Rattle.plan_cli.specs.ListTimes.{calendar_in}
use Rattle.plan_cli.proofs.ListTextLemmas.{times_beyond}
use Rattle.plan_cli.proofs.list_texts.plan_times.Goals as goal

pub returns-in_err-all-clause-refused : goal.returns-in_err-all-clause-refused
returns-in_err-all-clause-refused g c =
    let a = c.args in
    let error = err_from_is_err_and c.from_residual-in_err-all.result c.from_residual-in_err-all.ensures.1 in
    let starts : List ℕ = c.in_ok-made.made.schedule.starts.items in
    let same : c.deref-2.result.now ≡ starts = search rules in
    let one : calendar_in c.as_ref.result ≡ c.in_ok-calendar.calendar = search rules in
    rw (error.1, error.2) (times_beyond a.origin a.dates a.table.now a.plan.now c.in-Project.instance c.in-Project.field-1 starts c.deref-2.result.now
    c.in_ok-calendar.calendar (calendar_in c.as_ref.result) c.in_err-all.field-0.0 c.in-Project.is c.in_ok-made.ensures.made.starts same
    c.in_ok-calendar.ensures.made one c.in_err-all.ensures.refused)
