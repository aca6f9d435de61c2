use Rattle.std.proofs.Common.{◌≡◌, ◌++◌, ◌-◌, map}
use Rattle.std.specs.List.{range_with_len}
use Rattle.plan_net.specs.Network.{count_of}
use Rattle.plan_report.specs.IdSheets.{places_from}
use Rattle.plan_report.specs.Waits.{place_before}
use Rattle.plan_report.proofs.id_sheets.places_from.Given as goal

-- the places so far, and those of the waits that are left
abbrev pub invariant-loop-j : goal.invariant-loop-j
invariant-loop-j l = l.places.items ++ map (place_before l.network) (range_with_len l.j (count_of l.network - l.j)) ≡ places_from l.network l.behind
