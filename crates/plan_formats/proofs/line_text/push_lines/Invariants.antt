use Rattle.std.proofs.Common.{◌≡◌, ◌++◌, map, take}
use Rattle.plan_formats.specs.TableLines.{line_of, lines_text}
use Rattle.plan_formats.proofs.line_text.push_lines.Given as goal

-- the text, and behind it the lines so far
abbrev pub invariant-loop-line : goal.invariant-loop-line
invariant-loop-line l = l.text.items ≡ l.fn.text.items ++ lines_text (map line_of (take l.line-index l.lines))
