use Rattle.std.proofs.Common.{◌≡◌, ◌++◌, map, take}
use Rattle.std.specs.List.{flat_map}
use Rattle.plan_formats.specs.TableText.{text_row_of, row_line}
use Rattle.plan_formats.proofs.plain_text.push_rows.Given as goal

-- the text, and behind it the rows so far
abbrev pub invariant-loop-row : goal.invariant-loop-row
invariant-loop-row l =
    l.text.items ≡ l.fn.text.items ++ flat_map (row_line l.place) (map text_row_of (take l.row-index l.rows))
