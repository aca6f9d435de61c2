use Rattle.std.proofs.Common.{◌≡◌, ◌-◌, map}
use Rattle.std.specs.List.{list_all, range_with_len}
use Rattle.plan_net.specs.Network.{count_of}
use Rattle.plan_table.specs.Names.{name_of}
use Rattle.plan_report.specs.IdSheets.{are_inner_placed, is_placed}
use Rattle.plan_report.proofs.id_sheets.are_inner_placed.Given as goal

-- the activities that are left decide
abbrev pub invariant-loop-j : goal.invariant-loop-j
invariant-loop-j l = list_all (is_placed (map name_of l.ids) l.network l.behind) (range_with_len l.j (count_of l.network - l.j)) ≡ are_inner_placed (map name_of l.ids) l.network
