use Rattle.std.proofs.Common.{◌≡◌, map, take}
use Rattle.plan_formats.specs.Columns.{column_of}
use Rattle.plan_formats.specs.TableText.{heading_base}
use Rattle.plan_formats.proofs.plain_text.heading_base.Given as goal

-- the headings so far
abbrev pub invariant-loop-column : goal.invariant-loop-column
invariant-loop-column l = l.text.items ≡ heading_base (map column_of (take l.column-index l.columns))
