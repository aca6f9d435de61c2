use Rattle.std.proofs.Common.{List, ℕ, map, subst}
use Rattle.std.proofs.lemmas.Result.{err_from_is_err_and}
use Rattle.plan_errors.specs.Output.{Refuses}
use Rattle.plan_weekback.specs.Columns.{IsBack}
use Rattle.plan_weekback.specs.Entries.{days_in, entry_of}
use Rattle.plan_weekback.specs.Outputs.{TellsAnother, TellsNoBack}
use Rattle.plan_weekback.specs.Sameness.{MeansList}
use Rattle.plan_weekback.specs.declared.entries.Entry.{Entry}
use Rattle.plan_weekback.proofs.OutputLemmas.{columns_untold, meaning_untold, plan_shown}
use Rattle.plan_weekback.proofs.output.list_for.Goals as goal

pub returns-in_err-made-clause-refused : goal.returns-in_err-made-clause-refused
returns-in_err-made-clause-refused c =
    let a = c.args in
    let error = err_from_is_err_and c.from_residual-in_err-made.result c.from_residual-in_err-made.ensures.1 in
    rw (error.1, error.2) (columns_untold a.order.now a.reading.now (days_in a.calendar) a.text.now a.file.now a.listed.now a.plan.now
    (map entry_of c.in_ok-entries.entries.items) c.is_some.result c.in_err-made.field-0.0 c.in_ok-entries.ensures.texts c.is_some.ensures
    (subst (λ (v : List Entry). Refuses (TellsNoBack c.is_some.result (map entry_of v) a.file.now) c.in_err-made.field-0.0) c.deref.ensures.value
    c.in_err-made.ensures.refused))

pub returns-in_err-check_same-clause-refused : goal.returns-in_err-check_same-clause-refused
returns-in_err-check_same-clause-refused c =
    let a = c.args in
    let made = c.in_ok-made.made.items in
    let error = err_from_is_err_and c.from_residual-in_err-check_same.result c.from_residual-in_err-check_same.ensures.1 in
    rw (error.1, error.2) (meaning_untold a.order.now a.reading.now (days_in a.calendar) a.text.now a.file.now made a.listed.now a.plan.now
    (map entry_of c.in_ok-entries.entries.items) c.is_some.result c.in_err-check_same.field-0.0 c.in_ok-entries.ensures.texts c.is_some.ensures
    (subst (λ (v : List Entry). IsBack c.is_some.result (map entry_of v) a.file.now made) c.deref.ensures.value c.in_ok-made.ensures.back)
    (subst (λ (bytes : List ℕ). Refuses (TellsAnother a.order.now a.reading.now a.listed.now bytes) c.in_err-check_same.field-0.0) c.deref-2.ensures.value
    c.in_err-check_same.ensures.refused))

pub returns-clause-shown : goal.returns-clause-shown
returns-clause-shown c =
    let a = c.args in
    let made = c.in_ok-made.made.items in
    plan_shown (days_in a.calendar) a.order.now.today a.text.now a.file.now made a.listed.now a.plan.now (map entry_of c.in_ok-entries.entries.items)
    c.is_some.result c.in_ok-entries.ensures.texts c.is_some.ensures
    (subst (λ (v : List Entry). IsBack c.is_some.result (map entry_of v) a.file.now made) c.deref.ensures.value c.in_ok-made.ensures.back)

pub returns-clause-same : goal.returns-clause-same
returns-clause-same c =
    let order = c.args.order.now in
    subst (λ (bytes : List ℕ). MeansList order.capacities.now order.today c.args.reading.now bytes c.args.listed.now) c.deref-2.ensures.value
    c.in_ok-check_same.ensures.same
