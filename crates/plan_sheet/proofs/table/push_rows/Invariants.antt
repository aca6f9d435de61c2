use Rattle.std.proofs.Common.{◌≡◌, ◌++◌, take, flat_map}
use Rattle.std.specs.String.{string_bytes}
use Rattle.plan_sheet.specs.Table.{row_of, table_of}
use Rattle.plan_sheet.proofs.table.push_rows.Given as goal

-- the rows so far are written
abbrev pub invariant-loop-bar : goal.invariant-loop-bar
invariant-loop-bar l =
    string_bytes l.text ≡ string_bytes l.fn.text ++ flat_map (row_of (table_of l.table)) (take l.bar-index l.bars)
