use Rattle.std.proofs.Common.{◌≡◌, ◌≤◌, ◌++◌, IsUtf8, chars}
use Rattle.std.specs.String.{string_bytes}
use Rattle.std.specs.Str.Iter.{chars_rest}
use Rattle.plan_sheet.specs.Ics.{folded}
use Rattle.plan_sheet.proofs.ics.push_chars.Given as goal

-- what is written and the folded rest are the whole line, folded
abbrev pub invariant-loop-c : goal.invariant-loop-c
invariant-loop-c l =
    IsUtf8 (chars_rest l.c-iterator) × (l.used ≤ 75)
    × (string_bytes l.text ++ folded l.used (chars (chars_rest l.c-iterator)) ≡ string_bytes l.fn.text ++ folded 0 (chars l.fn.line))
