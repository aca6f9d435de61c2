use Rattle.std.proofs.Common.{◌≡◌, ◌++◌, codes, take, flat_map}
use Rattle.std.specs.String.{string_bytes}
use Rattle.plan_report.proofs.json_table.push_names.Given as goal

-- the names so far are written
abbrev pub invariant-loop-column : goal.invariant-loop-column
invariant-loop-column l = string_bytes l.text ≡ string_bytes l.initial.text
    ++ flat_map (λ column. column.now ++ codes ",") (take l.column-index l.columns)
