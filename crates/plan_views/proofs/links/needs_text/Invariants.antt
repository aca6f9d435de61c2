use Rattle.std.proofs.Common.{◌≡◌, [], map, fold}
use Rattle.std.specs.List.{range_with_len}
use Rattle.plan_table.specs.Names.{name_of}
use Rattle.plan_views.specs.LinkColumns.{with_need}
use Rattle.plan_views.proofs.links.needs_text.Given as goal

-- the needs so far
abbrev pub invariant-loop-k : goal.invariant-loop-k
invariant-loop-k l = l.text.items ≡ fold (with_need (map name_of l.names) l.needs) [] (range_with_len 0 l.k)
