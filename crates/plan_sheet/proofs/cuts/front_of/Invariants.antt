use Rattle.std.proofs.Common.{◌≡◌, ◌++◌, IsUtf8, chars}
use Rattle.std.specs.String.{string_bytes}
use Rattle.std.specs.Str.Iter.{chars_rest}
use Rattle.plan_sheet.specs.Cuts.{front_of}
use Rattle.plan_sheet.proofs.cuts.front_of.Given as goal

-- what is written and the front of the rest are the front of the text
abbrev pub invariant-loop-c : goal.invariant-loop-c
invariant-loop-c l =
    IsUtf8 (chars_rest l.c-iterator)
    × (string_bytes l.front ++ front_of l.left (chars (chars_rest l.c-iterator)) ≡ front_of l.fn.room (chars l.text))
