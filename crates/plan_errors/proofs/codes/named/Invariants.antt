use Rattle.std.proofs.Common.{◌≡◌, All, take}
use Rattle.plan_errors.specs.Codes.{name_of}
use Rattle.plan_errors.proofs.codes.named.Given as goal

-- none of the codes so far has the name
abbrev pub invariant-loop-code : goal.invariant-loop-code
invariant-loop-code l = All (λ code. l.name ≡ name_of code → ⊥) (take l.code-index l.codes)
