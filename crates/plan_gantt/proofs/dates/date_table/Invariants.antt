use Rattle.std.proofs.Common.{◌≡◌, ◌++◌}
use Rattle.std.specs.String.{string_bytes}
use Rattle.plan_gantt.specs.Column.{lines_from}
use Rattle.plan_gantt.specs.DateTable.{date_heading, date_line}
use Rattle.plan_gantt.proofs.dates.date_table.Given as goal

-- the lines of the activities so far follow the heading
abbrev pub invariant-loop-k : goal.invariant-loop-k
invariant-loop-k l = string_bytes l.text ≡ date_heading ++ lines_from (date_line l.network l.dates) 1 l.k
