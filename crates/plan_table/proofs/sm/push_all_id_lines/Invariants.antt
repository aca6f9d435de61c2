use Rattle.std.proofs.Common.{◌≡◌, ◌++◌, take, map}
use Rattle.std.specs.String.{string_bytes}
use Rattle.plan_table.specs.Numbered.{numbered}
use Rattle.plan_table.specs.Table.{activity_of}
use Rattle.plan_table.specs.ProjectText.{id_line}
use Rattle.plan_table.proofs.sm.push_all_id_lines.Given as goal

-- behind the text stand the lines of the ids so far
abbrev pub invariant-loop-k : goal.invariant-loop-k
invariant-loop-k l = string_bytes l.text ≡ string_bytes l.fn.text ++ numbered id_line 2 (map activity_of (take l.k l.activities))
