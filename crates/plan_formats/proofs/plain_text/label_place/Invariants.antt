use Rattle.std.proofs.Common.{◌≡◌, map, take}
use Rattle.plan_formats.specs.TableText.{text_row_of, label_place}
use Rattle.plan_formats.proofs.plain_text.label_place.Given as goal

-- the characters of the longest of the rows so far
abbrev pub invariant-loop-row : goal.invariant-loop-row
invariant-loop-row l = l.longest ≡ label_place (map text_row_of (take l.row-index l.rows))
