use Rattle.std.proofs.Common.{map}
use Rattle.plan_list_back.specs.ListBack.{times_of}
use Rattle.plan_cli.specs.ListTimes.{AreFirstTimes, calendar_in}
use Rattle.plan_cli.proofs.list_times.list_times.Given as goal

-- the times of the activities so far
abbrev pub invariant-loop-k : goal.invariant-loop-k
invariant-loop-k l = AreFirstTimes (calendar_in l.calendar) l.table l.starts l.slacks l.k (map times_of l.all.items)
