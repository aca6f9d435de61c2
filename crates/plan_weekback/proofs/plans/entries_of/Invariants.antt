use Rattle.std.proofs.Common.{map, take}
use Rattle.plan_table.specs.Table.{activity_of}
use Rattle.plan_weekback.specs.Entries.{IsEntry, days_in, entry_of}
use Rattle.plan_weekback.proofs.plans.entries_of.Given as goal
use Rattle.plan_weekdates.specs.Sequences.{Become}
use Rattle.plan_weeklist.specs.Rows.{dated_of}

-- the texts of the activities so far
abbrev pub invariant-loop-k : goal.invariant-loop-k
invariant-loop-k l =
    Become (IsEntry (days_in l.calendar) l.own (map dated_of l.rows) l.week l.starts) 0 (map activity_of (take l.k l.activities))
    (map entry_of l.entries.items)
