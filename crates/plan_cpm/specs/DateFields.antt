-- The dates that the fields of `Dates` hold.
use Rattle.plan_cpm.specs.Dates.{DateTable, IsConsistent}
use Rattle.plan_cpm.specs.declared.table.Dates.TheInside.{Inside}

abbrev pub table_of : Inside → DateTable
table_of a = record { duration = a.duration; durations = a.durations.items; finishes = a.finishes.items; tails = a.tails.items; free_floats = a.free_floats.items }

abbrev pub IsConsistentInside : Inside → Type 0
IsConsistentInside a = IsConsistent (table_of a)
