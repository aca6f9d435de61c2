use Rattle.std.proofs.Common.{◌≡◌, ◌++◌, take}
use Rattle.std.specs.String.{string_bytes}
use Rattle.plan_desk.specs.Answers.{texts_of_codes}
use Rattle.plan_desk.proofs.answers.push_codes.Given as goal

-- the texts of the rows so far follow the text
abbrev pub invariant-loop-i : goal.invariant-loop-i
invariant-loop-i l = string_bytes l.text ≡ string_bytes l.initial.text ++ texts_of_codes (take l.i l.rows)
