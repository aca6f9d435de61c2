use Rattle.std.proofs.Common.{◌≡◌, ◌++◌, [], ◌∷◌, drop}
use Rattle.plan_spreadsheet.specs.Spelling.{quoted_from}
use Rattle.plan_list_back.proofs.text.push_quoted.Given as goal

-- the bytes that are left, behind the text so far, give the whole cell
abbrev pub invariant-loop-byte : goal.invariant-loop-byte
invariant-loop-byte l =
    quoted_from l.text.items (drop l.byte-index l.cell) ≡ quoted_from (l.fn.text.items ++ 34 ∷ []) l.cell
