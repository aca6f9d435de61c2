use Rattle.std.proofs.Common.{◌≡◌}
use Rattle.plan_formats.specs.Tables.{rows_of}
use Rattle.plan_views.specs.Rows.{rows_from}
use Rattle.plan_views.specs.SlackTables.{slack_row}
use Rattle.plan_views.proofs.slacks.rows.Given as goal

-- the rows of the activities so far
abbrev pub invariant-loop-k : goal.invariant-loop-k
invariant-loop-k l = rows_of l.rows.items ≡ rows_from (slack_row l.network l.starts l.slacks) 1 l.k
