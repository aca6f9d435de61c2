use Rattle.std.proofs.Common.{◌≡◌, drop}
use Rattle.plan_list_back.specs.Texts.{is_quoted}
use Rattle.plan_list_back.proofs.text.is_quoted.Given as goal

-- the byte is among those that are left
abbrev pub invariant-loop-byte : goal.invariant-loop-byte
invariant-loop-byte l = is_quoted l.separator (drop l.byte-index l.cell) ≡ is_quoted l.separator l.cell
