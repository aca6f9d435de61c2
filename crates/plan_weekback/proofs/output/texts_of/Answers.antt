use Rattle.std.proofs.Common.{Err, List, ap, map, subst}
use Rattle.plan_weekback.specs.Entries.{AreEntries, HasEntryBeyond, days_in, entry_of}
use Rattle.plan_weekback.proofs.OutputLemmas.{late_told}
use Rattle.plan_weekback.proofs.output.texts_of.Goals as goal
use Rattle.plan_weeklist.specs.Rows.{dated_of}
use Rattle.plan_weeklist.specs.declared.rows.DatedRow.{DatedRow}

pub returns-in-Ok-plan_entries-clause-texts : goal.returns-in-Ok-plan_entries-clause-texts
returns-in-Ok-plan_entries-clause-texts c =
    let a = c.args in (
      c.in-Ok.list,
      c.in-Ok.ensures.list,
      subst
          (λ (rows : List DatedRow). AreEntries (days_in a.calendar) a.listed.now.table (map dated_of rows) a.listed.now.week a.plan.now.starts.items
          (map entry_of c.in-Ok-plan_entries.entries.items))
          c.deref.ensures.value c.in-Ok-plan_entries.ensures.entries,
    )

pub returns-clause-refused : goal.returns-clause-refused
returns-clause-refused c =
    let a = c.args in
    late_told (days_in a.calendar) a.today a.text.now a.listed.now a.plan.now c.in-Ok.list c.in-Err.fault c.days_refusal.result c.in-Ok.ensures.list
    (λ is. subst
    (λ (rows : List DatedRow). HasEntryBeyond (days_in a.calendar) a.listed.now.table (map dated_of rows) a.listed.now.week a.plan.now.starts.items)
    c.deref.ensures.value (c.in-Err.ensures.beyond (ap Err is)))
    c.days_refusal.ensures
