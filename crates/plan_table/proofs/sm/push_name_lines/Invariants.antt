use Rattle.std.proofs.Common.{◌≡◌, ◌++◌, take, map}
use Rattle.std.specs.String.{string_bytes}
use Rattle.plan_table.specs.Numbered.{numbered}
use Rattle.plan_table.specs.Table.{activity_of}
use Rattle.plan_table.specs.ProjectText.{name_line}
use Rattle.plan_table.proofs.sm.push_name_lines.Given as goal

-- behind the text stand the lines of the names so far
abbrev pub invariant-loop-k : goal.invariant-loop-k
invariant-loop-k l = string_bytes l.text ≡ string_bytes l.fn.text ++ numbered name_line 2 (map activity_of (take l.k l.activities))
