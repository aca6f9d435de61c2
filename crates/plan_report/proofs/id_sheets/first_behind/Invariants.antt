use Rattle.std.proofs.Common.{◌≡◌, ◌≤◌, ◌+◌, ◌-◌, length, map, filter}
use Rattle.std.specs.List.{range_with_len}
use Rattle.plan_net.specs.Network.{count_of}
use Rattle.plan_table.specs.Names.{name_of}
use Rattle.plan_report.specs.IdSheets.{first_behind, is_named}
use Rattle.plan_report.proofs.id_sheets.first_behind.Given as goal

-- those with an id among the activities that are left are behind those so far
abbrev pub invariant-loop-j : goal.invariant-loop-j
invariant-loop-j l = record {
  counted : l.behind + length (filter (is_named (map name_of l.ids)) (range_with_len l.j (count_of l.network - l.j)))
      ≡ first_behind (map name_of l.ids) l.network;
  low : 2 ≤ l.behind;
  bound : l.behind ≤ l.j;
}
