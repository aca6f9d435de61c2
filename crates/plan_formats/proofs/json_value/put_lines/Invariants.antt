use Rattle.std.proofs.Common.{◌≡◌, map, take}
use Rattle.serde_json.specs.View.{members_view}
use Rattle.plan_formats.specs.TableLines.{line_of}
use Rattle.plan_formats.specs.JsonData.{with_lines}
use Rattle.plan_formats.proofs.json_value.put_lines.Given as goal

-- the members with the values of the lines so far
abbrev pub invariant-loop-line : goal.invariant-loop-line
invariant-loop-line l =
    members_view l.object.entries ≡ with_lines (members_view l.fn.object.entries) (map line_of (take l.line-index l.lines))
